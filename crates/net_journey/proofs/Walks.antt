-- One hop of a journey by the step of a station, from the header of a telegram to the next header.
-- Assumes nothing.
use mathlib.Core.Path.{◌≡◌, refl, sym, ◌∙◌, ap, ap₂, subst}
use mathlib.Core.Bool.{true, false, false≢true}
use mathlib.Core.List.{List}
use Prim.Native.Nat.{ℕ, suc, ◌≤◌}
use native.Mathlib.Omega.{arith}
use lib.ListN.{length, replicate}
use Rattle.base.proofs.Places.{take_placed}
use Rattle.mop_registers.specs.Rows.{table_length}
use Rattle.mop_block.specs.Block.{is_address, first}
use Rattle.mop_header.specs.Header.{Head, head, telegram_of, remarked, rolled_left, rolled_right, new_control, as_reply, sent_back}
use Rattle.mop_reader.specs.Reading.{sound, reading}
use Rattle.mop_header.specs.declared.Form.{Form}
use Rattle.mop_header.specs.declared.Function.{Function}
use Rattle.mop_header.specs.declared.Function.TheVariants.{Request, Reply}
use Rattle.mop_reader.specs.declared.Reader.TheVariants.{Station}
use Rattle.mop_header.proofs.Marks.{agrees_remarked}
use Rattle.mop_reader.proofs.ReadBack.{is_written, body_behind}
use Rattle.mop_step.specs.Body.{accepts, judged_body, after_writes, reply_body}
use Rattle.mop_step.specs.Step.{Stepped, relays, answers, not_mine, refuses, Step, is_station, relayed, replied, stepping, max_reply}
use Rattle.mop_station.specs.Station.{sending_by, taking}
use Rattle.mop_step.proofs.Answers.{length_after, reply_bound}
use Rattle.mop_step.proofs.Cases.{act_either}
use Rattle.mop_step.proofs.Steps.{for_this}
use Rattle.mop_station.proofs.Telegrams.{heard}
use Rattle.mop_step.proofs.Stations.{is_station_lem}
use Rattle.net_journey.specs.Net.{Net, good_net, is_there, table_at, with_table}
use Rattle.net_journey.specs.Journey.{at_zero, at_nobody, unheard, refusal, onward, call_output}
use Rattle.net_journey.specs.Bounded.{calling, called, heard_by, playing}
use Rattle.net_journey.proofs.Net.{with_itself, good_with, good_table, good_address}
use Rattle.net_journey.proofs.Telegrams.{Faultless, sound_faultless, reads_well, reply_short, relayed_left, relayed_right, replied_right}
use Rattle.net_journey.proofs.Positions.{faultless_left, faultless_right}
use Rattle.net_journey.proofs.Steps.{ends_zero, ends_nobody, handler_there}
use Rattle.net_journey.proofs.Bounded.{plays}

-- what an answer comes from
record Answer (h : Head) (body t : List ℕ) (g : Head) (reply after : List ℕ) : Type 0 where
  request : h.function ≡ Request
  accepted : judged_body body ≡ accepts
  header : g ≡ replied h
  reads : reply ≡ reply_body body (after_writes body t)
  registers : after ≡ after_writes body t

-- what the step of a station comes from, at the first entry's station
module _ (h : Head) (body t : List ℕ) where
  abbrev MadeBy : Stepped → List ℕ → Type 0
  MadeBy (relays g) after = (g ≡ relayed h.function h) × (after ≡ t)
  MadeBy (answers g reply) after = Answer h body t g reply after
  MadeBy not_mine after = ⊥
  MadeBy (refuses k) after = after ≡ t

  abbrev Made : Step → Type 0
  Made s = MadeBy s.stepped s.registers

  step_made : (own room : ℕ) → is_station own t ≡ true → first h.block ≡ own → Made (stepping own h body t room)
  step_made own room set mine =
      rw (for_this own h body t room set mine)
      (act_either own h body t room Made (λ k. refl) (λ l. (refl, refl))
      (λ c l. record { request = c.request; accepted = c.accepted; header = refl; reads = refl; registers = refl }) mine)

-- the next telegram has no fault
abbrev Reads : List ℕ → Head → Type 0
Reads body g = reading Station (telegram_of g body) ≡ sound g

module _ (c : ℕ) {form : Form} {b body : List ℕ} (w : Faultless form b body) (some : first b ≡ 0 → ⊥) where
  relay_reads : (f : Function) → Reads body (relayed f (remarked (head f c form b)))
  unfolding relayed
  relay_reads Request = subst (Reads body) (sym (relayed_left c form b)) (reads_well Request c (faultless_left w some))
  relay_reads Reply = subst (Reads body) (sym (relayed_right c form b)) (reads_well Reply c (faultless_right w some))

  reply_reads : (reply : List ℕ) → length reply ≤ max_reply → Reads reply (replied (remarked (head Request c form b)))
  reply_reads reply l =
      let v : Faultless form b reply = record { good = w.good; size = w.size; short = reply_short w reply l } in
      subst (Reads reply) (sym (replied_right c form b)) (reads_well Reply new_control (faultless_right v some))

relayed_function : (f : Function) (h : Head) → (relayed f h).function ≡ h.function
unfolding relayed rolled_left sent_back rolled_right remarked
relayed_function Request h = refl
relayed_function Reply h = refl

replied_function : (h : Head) → (replied h).function ≡ Reply
unfolding replied as_reply sent_back rolled_right remarked
replied_function h = refl

-- what a hop comes to: the station a relays the telegram of h and body with the header g
pub record Relayed (net : Net) (a : ℕ) (h : Head) (body : List ℕ) (s : Step) (g : Head) : Type 0 where
  pub order : reading Station (telegram_of g body) ≡ sound g
  pub function : g.function ≡ h.function
  pub kept : s.registers ≡ table_at a net
  pub same : with_table a s.registers net ≡ net
  pub plays : (k : ℕ) → playing (suc k) net (telegram_of h body)
      ≡ onward (telegram_of h body) (length (telegram_of g body)) (playing k net (telegram_of g body))

-- it answers it with the header g and the body reply
pub record Answered (net : Net) (a : ℕ) (h : Head) (body : List ℕ) (s : Step) (g : Head) (reply : List ℕ) : Type 0 where
  pub order : reading Station (telegram_of g reply) ≡ sound g
  pub request : h.function ≡ Request
  pub is_reply : g.function ≡ Reply
  pub most : length reply ≤ max_reply
  pub long : length s.registers ≡ table_length
  pub fit : good_net (with_table a s.registers net) ≡ true
  pub plays : (k : ℕ) → playing (suc k) net (telegram_of h body)
      ≡ onward (telegram_of h body) (length (telegram_of g reply)) (playing k (with_table a s.registers net) (telegram_of g reply))

-- it refuses it with j
pub record Refused (net : Net) (a : ℕ) (h : Head) (body : List ℕ) (s : Step) (j : ℕ) : Type 0 where
  pub kept : s.registers ≡ table_at a net
  pub same : with_table a s.registers net ≡ net
  pub plays : (k : ℕ) → playing (suc k) net (telegram_of h body) ≡ refusal (telegram_of h body) net j

module _ (net : Net) (h : Head) (body : List ℕ) (order : reading Station (telegram_of h body) ≡ sound h) where
  -- no station is called
  pub walk_zero : first h.block ≡ 0 → (k : ℕ) → playing (suc k) net (telegram_of h body) ≡ unheard (telegram_of h body) net at_zero
  walk_zero e k = plays (suc k) (ends_zero net (telegram_of h body) h order e) (omega arith)

  pub walk_nobody : (a : ℕ) → first h.block ≡ a → (a ≡ 0 → ⊥) → is_there a net ≡ false →
      (k : ℕ) → playing (suc k) net (telegram_of h body) ≡ unheard (telegram_of h body) net at_nobody
  walk_nobody a e n none k = plays (suc k) (ends_nobody net (telegram_of h body) h order a e n none) (omega arith)

  -- the station a is called
  module _ (fit : good_net net ≡ true) (a : ℕ) (mine : first h.block ≡ a) (there : is_there a net ≡ true)
      {s : Step} (is : stepping a h body (table_at a net) call_output ≡ s) where
    set : is_station a (table_at a net) ≡ true
    set = is_station_lem a (table_at a net) (good_address a net fit there) (good_table a net fit there)

    made : {x : Stepped} → s.stepped ≡ x → MadeBy h body (table_at a net) x s.registers
    made e =
        subst (λ (x : Stepped). MadeBy h body (table_at a net) x s.registers) e
        (subst (Made h body (table_at a net)) is (step_made h body (table_at a net) a call_output set mine))

    -- the telegram as it was read, with the mark that its block asks for
    marked : remarked h ≡ h
    marked = agrees_remarked h (is_written Station (telegram_of h body) h order).order.mark

    faultless : Faultless h.form h.block body
    faultless = subst (Faultless h.form h.block) (body_behind h body) (sound_faultless (telegram_of h body) h order)

    some : first h.block ≡ 0 → ⊥
    unfolding is_address
    some z = false≢true (subst (λ (b : ℕ). is_address b ≡ true) (sym mine ∙ z) (good_address a net fit there))

    called_with : calling a (table_at a net) (telegram_of h body) ≡ taking s body (replicate call_output 0)
    unfolding calling
    called_with =
        let tg = telegram_of h body in
        let out : List ℕ = replicate call_output 0 in
        heard a (table_at a net) tg out set h order
        ∙ ap (λ (l : List ℕ). taking (stepping a h l (table_at a net) call_output) l out) (body_behind h body)
        ∙ ap (λ (r : Step). taking r body out) is

    played : {x : Stepped} → s.stepped ≡ x →
        (k : ℕ) → playing (suc k) net (telegram_of h body)
        ≡ called (playing k) net (telegram_of h body) a (sending_by x body s.registers (replicate call_output 0))
    unfolding playing
    played e k =
        let tg = telegram_of h body in
        ap (heard_by (playing k) net tg) (handler_there net tg h order a mine (λ z. some (mine ∙ z)) there)
        ∙ ap (called (playing k) net tg a) (called_with ∙ ap (λ (x : Stepped). sending_by x body s.registers (replicate call_output 0)) e)

    kept_net : s.registers ≡ table_at a net → with_table a s.registers net ≡ net
    kept_net e = ap (λ (t : List ℕ). with_table a t net) e ∙ with_itself a net

    pub walk_relayed : {g : Head} → s.stepped ≡ relays g → Relayed net a h body s g
    unfolding sending_by
    walk_relayed {g} e =
        let m = made e in
        let x = telegram_of g body in
        let out : List ℕ = replicate call_output 0 in
        record {
          order = subst (Reads body) (ap (relayed h.function) marked ∙ sym m.0) (relay_reads h.control faultless some h.function);
          function = ap (λ (y : Head). y.function) m.0 ∙ relayed_function h.function h;
          kept = m.1;
          same = kept_net m.1;
          plays = λ k. played e k
              ∙ ap₂ (λ (n : Net) (y : List ℕ). onward (telegram_of h body) (length x) (playing k n y)) (kept_net m.1) (take_placed x out);
        }

    pub walk_answered : {g : Head} {reply : List ℕ} → s.stepped ≡ answers g reply → Answered net a h body s g reply
    unfolding sending_by
    walk_answered {g} {reply} e =
        let m = made e in
        let x = telegram_of g reply in
        let out : List ℕ = replicate call_output 0 in
        let most : length reply ≤ max_reply = rw m.reads (reply_bound body (after_writes body (table_at a net)) m.accepted) in
        let long : length s.registers ≡ table_length = ap length m.registers ∙ length_after body (table_at a net) ∙ good_table a net fit there in
        let from : remarked (head Request h.control h.form h.block) ≡ h =
        ap (λ (f : Function). remarked (head f h.control h.form h.block)) (sym m.request) ∙ marked in
        record {
          order = subst (Reads reply) (ap replied from ∙ sym m.header) (reply_reads h.control faultless some reply most);
          request = m.request;
          is_reply = ap (λ (y : Head). y.function) m.header ∙ replied_function h;
          most = most;
          long = long;
          fit = good_with a s.registers net fit long;
          plays = λ k. played e k
              ∙ ap (λ (y : List ℕ). onward (telegram_of h body) (length x) (playing k (with_table a s.registers net) y)) (take_placed x out);
        }

    pub walk_refused : {j : ℕ} → s.stepped ≡ refuses j → Refused net a h body s j
    unfolding sending_by
    walk_refused {j} e =
        let same = kept_net (made e) in
        record { kept = made e; same = same; plays = λ k. played e k ∙ ap (λ (n : Net). refusal (telegram_of h body) n j) same }

    pub never_another : s.stepped ≡ not_mine → ⊥
    never_another e = made e

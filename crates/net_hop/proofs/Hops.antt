-- A hop is one step of the journey that is played.
-- Assumes nothing.
use mathlib.Core.Path.{◌≡◌, refl, sym, ◌∙◌, ap, subst}
use mathlib.Core.Bool.{Bool, true, false, and-eq-true_iff}
use mathlib.Core.List.{List, [], ◌∷◌, ◌++◌}
use Prim.Native.Nat.{ℕ, zero, suc, ◌*◌, ◌≤◌, ◌<◌}
use native.Mathlib.Nat.{mul-le-mul_left}
use native.Mathlib.Omega.{arith}
use borrow.Author.Tests.{leb-true, le-ltb, lt-ltb}
use lib.Dec.{leb, ltb}
use lib.ListN.{length, get_or, take, drop}
use Rattle.base.specs.Choice.{pick}
use Rattle.base.proofs.Choice.{pick_either}
use Rattle.mop_registers.specs.Rows.{table_length}
use Rattle.mop_block.specs.Block.{is_address, has, first}
use Rattle.mop_header.specs.Header.{Head, telegram_of}
use Rattle.mop_reader.specs.Reading.{sound, reading}
use Rattle.mop_header.specs.declared.Function.TheVariants.{Request, Reply}
use Rattle.mop_reader.specs.declared.Reader.TheVariants.{Station}
use Rattle.mop_step.specs.Step.{Stepped, not_mine, refuses, Step, StepCall, stepping, lending, max_reply, step_call_of}
use Rattle.std.specs.Prelude.{Result, Ok, Err}
use Rattle.refusal.specs.declared.Refusal.{Refusal}
use Rattle.mop_step.specs.declared.StationStep.{StationStep}
use Rattle.mop_step.specs.declared.StationStep.TheVariants as made
use Rattle.mop_step.specs.Step as step
use Rattle.mop_station.specs.Station.{Handled}
use Rattle.mop_station.specs.Station as handled
use Rattle.net_journey.specs.Net.{Net, good_net, is_there, table_at, with_table}
use Rattle.net_journey.specs.Journey.{Ending, at_zero, at_nobody, refused_with, Course, onward, call_output}
use Rattle.net_journey.specs.Bounded.{playing}
use Rattle.net_journey.proofs.Walks.{walk_zero, walk_nobody, walk_relayed, walk_answered, walk_refused, never_another}
use Rattle.net_hop.specs.Tables.{net_of, tables_fit, set_up}
use Rattle.mop_step.proofs.Rooms.{lent_count, replies_fit}
use Rattle.net_journey.proofs.Net.{good_table, good_address}
use Rattle.net_hop.specs.Hop.{table_of, put_table, bytes, places_of, Hopped, relays, answers, ended, Hop, hop, hopped_by, hop_by, step_at, hop_at, hopping, hop_of}
use Rattle.mop_header.specs.declared.Header.{Header}
use Rattle.net_hop.specs.declared.HopAnswer.{HopAnswer}
use Rattle.net_hop.specs.declared.HopAnswer.TheVariants.{Relayed, Answered, Ended}
use Rattle.net_hop.specs.declared.JourneyEnd.TheVariants.{AtNobody, Refused}
use Rattle.net_hop.proofs.Tables.{fit_length, set_up_parts, set_up_fit, set_up_after, few_addresses, good_net_lem, addresses_of_net, place_in, here, table_at_place, new_net, new_fits}
use Rattle.net_hop.proofs.Places.{place_of, no_place}

address_byte : (a : ℕ) → is_address a ≡ true → a < bytes
unfolding is_address
address_byte a e = omega (arith, leb-true a 0xF0 ((and-eq-true_iff (leb 1 a) (leb a 0xF0)).0 e).1)

-- the telegram of h and body goes on as that of g and next, over other tables
pub record Goes (addresses tables : List ℕ) (h : Head) (body after : List ℕ) (g : Head) (next : List ℕ) : Type 0 where
  pub set : set_up addresses after ≡ true
  pub order : reading Station (telegram_of g next) ≡ sound g
  pub plays : (k : ℕ) → playing (suc k) (net_of addresses tables) (telegram_of h body)
      ≡ onward (telegram_of h body) (length (telegram_of g next)) (playing k (net_of addresses after) (telegram_of g next))

-- relayed, it stays a request or a reply; answered, it was a request, and a reply comes back
pub record GoesOn (addresses tables : List ℕ) (h : Head) (body after : List ℕ) (g : Head) : Type 0 where
  pub goes : Goes addresses tables h body after g body
  pub function : g.function ≡ h.function

pub record TurnsBack (addresses tables : List ℕ) (h : Head) (body after : List ℕ) (g : Head) (reply : List ℕ) : Type 0 where
  pub goes : Goes addresses tables h body after g reply
  pub request : h.function ≡ Request
  pub back : g.function ≡ Reply

-- the journey ends with it
abbrev pub ended_by : List ℕ → List Handled → Net → Ending → Course
ended_by tg given net e = record { transmissions = tg ∷ []; answers = given; after = net; ending = e }

pub record Ends (addresses tables : List ℕ) (h : Head) (body after : List ℕ) (e : Ending) : Type 0 where
  pub set : set_up addresses after ≡ true
  pub given : List Handled
  pub plays : (k : ℕ) → playing (suc k) (net_of addresses tables) (telegram_of h body) ≡ ended_by (telegram_of h body) given (net_of addresses after) e

-- by what a hop gave
abbrev pub MeansBy : List ℕ → List ℕ → Head → List ℕ → List ℕ → Hopped → Type 0
MeansBy addresses tables h body after (relays g) = GoesOn addresses tables h body after g
MeansBy addresses tables h body after (answers g reply) = TurnsBack addresses tables h body after g reply
MeansBy addresses tables h body after (ended e) = Ends addresses tables h body after e

abbrev pub Means : List ℕ → List ℕ → Head → List ℕ → Hop → Type 0
Means addresses tables h body x = MeansBy addresses tables h body x.tables x.hopped

module _ (addresses tables : List ℕ) (set : set_up addresses tables ≡ true) (h : Head) (body : List ℕ) (order : reading Station (telegram_of h body) ≡ sound h) where
  abbrev net : Net
  net = net_of addresses tables

  good : good_net net ≡ true
  good = good_net_lem addresses tables set

  fits : tables_fit addresses tables ≡ true
  fits = set_up_fit addresses tables set

  -- the station a makes its step
  module _ (a : ℕ) (mine : first h.block ≡ a) (there : is_there a net ≡ true) {s : Step} (is : stepping a h body (table_at a net) call_output ≡ s) where
    abbrev after : List ℕ
    after = put_table (place_in a addresses) s.registers tables

    module _ (long : length s.registers ≡ table_length) where
      left : with_table a s.registers net ≡ net_of addresses after
      left = new_net a addresses tables fits there s.registers long

      still_set : set_up addresses after ≡ true
      still_set = set_up_after addresses tables set after (new_fits a addresses tables fits there s.registers long)

    kept_long : s.registers ≡ table_at a net → length s.registers ≡ table_length
    kept_long e = ap length e ∙ good_table a net good there

    step_means : (x : Stepped) → s.stepped ≡ x → MeansBy addresses tables h body after (hopped_by x)
    unfolding hopped_by
    step_means (step.relays g) e =
        let w = walk_relayed net h body order good a mine there is e in
        let same = sym w.same ∙ left (kept_long w.kept) in
        record {
          goes = record {
            set = still_set (kept_long w.kept);
            order = w.order;
            plays = λ k. w.plays k ∙ ap (λ (n : Net). onward (telegram_of h body) (length (telegram_of g body)) (playing k n (telegram_of g body))) same;
          };
          function = w.function;
        }
    step_means (step.answers g reply) e =
        let w = walk_answered net h body order good a mine there is e in
        record {
          goes = record {
            set = still_set w.long;
            order = w.order;
            plays = λ k. w.plays k ∙ ap (λ (n : Net). onward (telegram_of h body) (length (telegram_of g reply)) (playing k n (telegram_of g reply))) (left w.long);
          };
          request = w.request;
          back = w.is_reply;
        }
    step_means (refuses j) e =
        let w = walk_refused net h body order good a mine there is e in
        record {
          set = still_set (kept_long w.kept);
          given = handled.refuses j ∷ [];
          plays = λ k. w.plays k ∙ ap (λ (n : Net). ended_by (telegram_of h body) (handled.refuses j ∷ []) n (refused_with j)) (sym w.same ∙ left (kept_long w.kept));
        }
    step_means not_mine e = absurd (never_another net h body order good a mine there is e)

  module _ (places : List ℕ) (known : places ≡ places_of addresses) (reply : List ℕ) (enough : max_reply ≤ length reply) where
    -- as the hop makes it, with the table at its place
    called_means : (a : ℕ) → first h.block ≡ a → is_there a net ≡ true → Means addresses tables h body (step_at a (place_in a addresses) h body tables reply)
    unfolding step_at hop_by
    called_means a mine there =
        let table = table_at_place a addresses tables (here a addresses tables fits there) in
        let made = replies_fit a h body (table_of (place_in a addresses) tables) call_output reply enough in
        rw made (step_means a mine there (ap (λ (t : List ℕ). stepping a h body t call_output) table) _ refl)

    -- nobody is called
    nobody_means : (e : Ending) → ((k : ℕ) → playing (suc k) net (telegram_of h body) ≡ ended_by (telegram_of h body) [] net e) →
        Means addresses tables h body (hop (ended e) 0 tables reply)
    nobody_means e p = record { set = set; given = []; plays = p }

    there_means : (a : ℕ) → first h.block ≡ suc a → (there : Bool) → is_there (suc a) net ≡ there →
        Means addresses tables h body (hop_at (suc a) (get_or places (suc a) 0) h body tables reply)
    unfolding hop_at is_there
    there_means a mine false e =
        let none : has (suc a) addresses ≡ false = ap (has (suc a)) (sym (addresses_of_net addresses tables)) ∙ e in
        rw (known, no_place (suc a) addresses (few_addresses addresses tables fits) none)
        (nobody_means at_nobody (walk_nobody net h body order (suc a) mine (λ z. omega arith) e))
    there_means a mine true e =
        let some : has (suc a) addresses ≡ true = ap (has (suc a)) (sym (addresses_of_net addresses tables)) ∙ e in
        let byte = address_byte (suc a) (good_address (suc a) net good e) in
        let number = place_of (suc a) addresses (few_addresses addresses tables fits) byte (set_up_parts addresses tables set).1 some in
        let reached = mul-le-mul_left {m = suc (place_in (suc a) addresses)} {n = length addresses} table_length (here (suc a) addresses tables fits e) in
        rw (known, number, le-ltb (length tables) (table_length * suc (place_in (suc a) addresses)) (omega (arith, reached, fit_length addresses tables fits)))
        (called_means (suc a) mine e)

    first_means : (a : ℕ) → first h.block ≡ a → Means addresses tables h body (hop_at a (get_or places a 0) h body tables reply)
    unfolding hop_at
    first_means zero e = nobody_means at_zero (walk_zero net h body order e)
    first_means (suc a) e = there_means a e (is_there (suc a) net) refl

    pub hop_means : Means addresses tables h body (hopping places h body tables reply)
    unfolding hopping
    hop_means = first_means (first h.block) refl

    -- by the answer of the code
    pub means_as : (r : HopAnswer) (slice after buffer : List ℕ) → hop_of r slice after buffer ≡ hopping places h body tables reply →
        {x : HopAnswer} → r ≡ x → Means addresses tables h body (hop_of x slice after buffer)
    means_as r slice after buffer call e =
        subst (λ (x : HopAnswer). Means addresses tables h body (hop_of x slice after buffer)) e (subst (Means addresses tables h body) (sym call) hop_means)

-- no reply has more bytes than the buffer for it
step_count : (a place : ℕ) (h : Head) (body tables reply : List ℕ) → (step_at a place h body tables reply).count ≤ max_reply
unfolding step_at hop_by
step_count a place h body tables reply = lent_count a h body (table_of place tables) reply call_output

at_count : (a number : ℕ) (h : Head) (body tables reply : List ℕ) → (hop_at a number h body tables reply).count ≤ max_reply
unfolding hop_at
at_count zero number h body tables reply = omega arith
at_count (suc a) zero h body tables reply = omega arith
at_count (suc a) (suc place) h body tables reply =
    pick_either (λ (x : Hop). x.count ≤ max_reply) (ltb (length tables) (table_length * suc place)) (omega arith) (step_count (suc a) place h body tables reply)

pub answered_count : (places : List ℕ) (h : Head) (body tables reply : List ℕ) (r : HopAnswer) (slice after buffer : List ℕ) →
    hop_of r slice after buffer ≡ hopping places h body tables reply → {g : Header} {n : ℕ} → r ≡ Answered g n → n ≤ max_reply
unfolding hopping
answered_count places h body tables reply r slice after buffer call e =
    subst (λ (x : HopAnswer). (hop_of x slice after buffer).count ≤ max_reply) e
    (subst (λ (x : Hop). x.count ≤ max_reply) (sym call) (at_count (first h.block) (get_or places (first h.block) 0) h body tables reply))

-- what the code makes of a station's answer
abbrev given_by : Result StationStep Refusal → HopAnswer
given_by (Ok (made.Relayed h)) = Relayed h
given_by (Ok (made.Answered h n)) = Answered h n
given_by (Ok made.NotMine) = Ended AtNobody
given_by (Err r) = Ended (Refused r)

given_hop : (x : Result StationStep Refusal) (slice t buffer tables : List ℕ) (place : ℕ) →
    hop_of (given_by x) slice (put_table place t tables) buffer ≡ hop_by (step_call_of x slice t buffer) place tables
unfolding hop_by hopped_by
given_hop (Ok (made.Relayed h)) slice t buffer tables place = refl
given_hop (Ok (made.Answered h n)) slice t buffer tables place = refl
given_hop (Ok made.NotMine) slice t buffer tables place = refl
given_hop (Err r) slice t buffer tables place = refl

-- the step of the station at a place: start is where its table begins, and n the length of a table
pub stepped_at : (own place : ℕ) (h : Head) (body tables reply : List ℕ) (r : Result StationStep Refusal) (slice t buffer : List ℕ) {start n : ℕ} →
    start ≡ table_length * place → n ≡ table_length →
    step_call_of r slice t buffer ≡ lending (stepping own h body (take n (drop start tables)) call_output) (take n (drop start tables)) reply →
    {x : Result StationStep Refusal} → r ≡ x → hop_of (given_by x) slice (take start tables ++ (t ++ drop n (drop start tables))) buffer ≡ step_at own place h body tables reply
unfolding step_at put_table table_of
stepped_at own place h body tables reply r slice t buffer es en call {x} e =
    rw (es, en, ← e) (given_hop r slice t buffer tables place ∙ ap (λ (c : StepCall). hop_by c place tables) (rw (es, en) at call))

-- by the first entry and its number in the table of places
module _ (places : List ℕ) (h : Head) (body tables reply : List ℕ) {a number : ℕ} (entry : a ≡ first h.block) (found : number ≡ get_or places a 0) where
  at_first : hopping places h body tables reply ≡ hop_at a number h body tables reply
  unfolding hopping
  at_first = rw (← entry, ← found)

  at_nobody_lem : (b : ℕ) → (b ≡ 0 → ⊥) → hop_at b 0 h body tables reply ≡ hop (ended at_nobody) 0 tables reply
  unfolding hop_at
  at_nobody_lem zero n = absurd (n refl)
  at_nobody_lem (suc b) n = refl

  at_place : (b place : ℕ) → (b ≡ 0 → ⊥) → hop_at b (suc place) h body tables reply
      ≡ pick (ltb (length tables) (table_length * suc place)) (hop (ended at_nobody) 0 tables reply) (step_at b place h body tables reply)
  unfolding hop_at
  at_place zero place n = absurd (n refl)
  at_place (suc b) place n = refl

  pub hop_zero : a ≡ 0 → hop (ended at_zero) 0 tables reply ≡ hopping places h body tables reply
  unfolding hop_at
  hop_zero e = sym (at_first ∙ rw e)

  module _ (some : a ≡ 0 → ⊥) where
    pub hop_nobody : number ≡ 0 → hop (ended at_nobody) 0 tables reply ≡ hopping places h body tables reply
    hop_nobody e = sym (at_first ∙ rw e (at_nobody_lem a some))

    module _ (place : ℕ) (e : number ≡ suc place) where
      pub hop_beyond : length tables < table_length * suc place → hop (ended at_nobody) 0 tables reply ≡ hopping places h body tables reply
      hop_beyond l = sym (at_first ∙ rw e (at_place a place some ∙ rw (lt-ltb (length tables) (table_length * suc place) l)))

      pub hop_there : table_length * suc place ≤ length tables → step_at a place h body tables reply ≡ hopping places h body tables reply
      hop_there l = sym (at_first ∙ rw e (at_place a place some ∙ rw (le-ltb (length tables) (table_length * suc place) l)))

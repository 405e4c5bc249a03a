-- One hop of a journey, for each kind of telegram.
-- Assumes nothing.
use mathlib.Core.Path.{◌≡◌, refl, sym, ◌∙◌, ap, ap₂, subst, subst₂}
use mathlib.Core.Bool.{true, false}
use mathlib.Core.List.{List}
use Prim.Native.Nat.{ℕ, zero, suc, ◌≤◌}
use native.Mathlib.Omega.{arith}
use lib.ListN.{length, take}
use Rattle.base.specs.Places.{placed}
use Rattle.base.proofs.Places.{take_placed}
use Rattle.mop_registers.specs.Rows.{table_length}
use Rattle.mop_block.specs.Block.{is_address, first, next, roll_left, roll_right}
use Rattle.mop_header.specs.Header.{Head, head, telegram_of, body_of, remarked, new_control}
use Rattle.mop_reader.specs.Reading.{Reading, sound, faulty, reading}
use Rattle.mop_header.specs.declared.Function.{Function}
use Rattle.mop_header.specs.declared.Function.TheVariants.{Request, Reply}
use Rattle.mop_header.specs.declared.Form.{Form}
use Rattle.mop_reader.specs.declared.Reader.TheVariants.{Station}
use Rattle.mop_header.proofs.Marks.{remarked_function, remarked_block}
use Rattle.mop_reader.proofs.ReadBack.{body_behind}
use Rattle.mop_step.specs.Body.{accepts, rejects, judged_body, after_writes, reply_body}
use Rattle.mop_station.specs.Station.{sent, refuses, Handling, leaving, handling}
use Rattle.net_journey.specs.Net.{Net, good_net, is_there, table_at, with_table}
use Rattle.net_journey.specs.Journey.{at_zero, at_nobody, refused_with, station, named, addressee, handler, Course, unheard, refusal, onward}
use Rattle.net_journey.specs.Journey.{call_output, left_by, Journey, ends, refused, sends}
use Rattle.net_journey.proofs.Net.{with_itself, good_table, good_address}
use Rattle.net_journey.proofs.Calls.{call_reply, call_request, call_accepted, call_rejected}
use Rattle.net_journey.proofs.Telegrams.{telegram_for, Faultless, reads_well, first_is, relayed_left, relayed_right, replied_right}

-- no station is called: with 00 first, with an address that nobody has, with a fault of the header
module _ (net : Net) (tg : List ℕ) where
  pub ends_faulty : (k : ℕ) → reading Station tg ≡ faulty k → Journey net tg (unheard tg net (refused_with k))
  unfolding handler addressee
  ends_faulty k e = ends (ap (λ (r : Reading). addressee r net) e)

  module _ (h : Head) (order : reading Station tg ≡ sound h) where
    handler_read : handler net tg ≡ named (first h.block) net
    unfolding handler addressee
    handler_read = ap (λ (r : Reading). addressee r net) order

    pub ends_zero : first h.block ≡ 0 → Journey net tg (unheard tg net at_zero)
    unfolding named
    ends_zero e = ends (handler_read ∙ ap (λ (a : ℕ). named a net) e)

    pub ends_nobody : (a : ℕ) → first h.block ≡ a → (a ≡ 0 → ⊥) → is_there a net ≡ false → Journey net tg (unheard tg net at_nobody)
    unfolding named
    ends_nobody zero e n none = absurd (n refl)
    ends_nobody (suc p) e n none = ends {e = at_nobody} (handler_read ∙ ap (λ (a : ℕ). named a net) e ∙ rw none)

    pub handler_there : (a : ℕ) → first h.block ≡ a → (a ≡ 0 → ⊥) → is_there a net ≡ true → handler net tg ≡ station a (table_at a net)
    unfolding named
    handler_there zero e n there = absurd (n refl)
    handler_there (suc p) e n there = handler_read ∙ ap (λ (a : ℕ). named a net) e ∙ rw there

-- the journey of a telegram goes on with x, in a net that may be another one
abbrev pub GoesOn : Net → List ℕ → Net → List ℕ → Type 0
GoesOn net tg after x = (rest : Course) → Journey after x rest → Journey net tg (onward tg (length x) rest)

-- a station is called: it sends x, or refuses
module _ (net : Net) (a : ℕ) (t tg out : List ℕ) (room : call_output ≤ length out) (mine : handler net tg ≡ station a t) where
  sends_on : (x t' : List ℕ) → handling a t tg out ≡ leaving (sent (length x)) t' (placed x out) → GoesOn net tg (with_table a t' net) x
  sends_on x t' e rest j =
      sends mine out room (ap (λ (g : Handling). g.handled) e)
      (subst₂ (λ (l : Net) (y : List ℕ). Journey l y rest) (sym (ap (λ (g : Handling). left_by a g net) e))
      (sym (ap (λ (g : Handling). take (length x) g.output) e ∙ take_placed x out)) j)

  refuses_with : (k : ℕ) → handling a t tg out ≡ leaving (refuses k) t out → Journey net tg (refusal tg (with_table a t net) k)
  refuses_with k e =
      subst (λ (l : Net). Journey net tg (refusal tg l k)) (ap (λ (g : Handling). left_by a g net) e)
      (refused mine out room (ap (λ (g : Handling). g.handled) e))

-- a faultless telegram whose first entry is an address that nobody has
pub stop_nobody : (net : Net) {form : Form} {b body : List ℕ} → Faultless form b body → (p : ℕ) → first b ≡ suc p → is_there (suc p) net ≡ false →
    (f : Function) (c : ℕ) → (let tg = telegram_for f c form b body in Journey net tg (unheard tg net at_nobody))
stop_nobody net {form} {b} {body} w p mine none f c =
    ends_nobody net (telegram_for f c form b body) (remarked (head f c form b)) (reads_well f c w) (suc p) (first_is f c w mine) (λ z. omega arith) none

-- or a station's
module _ (out : List ℕ) (room : call_output ≤ length out) (net : Net) (fit : good_net net ≡ true) {form : Form} {b body : List ℕ}
    (w : Faultless form b body) (p : ℕ) (mine : first b ≡ suc p) (there : is_there (suc p) net ≡ true) where
  address : is_address (suc p) ≡ true
  address = good_address (suc p) net fit there

  long : length (table_at (suc p) net) ≡ table_length
  long = good_table (suc p) net fit there

  module _ (f : Function) (c : ℕ) where
    called : handler net (telegram_for f c form b body) ≡ station (suc p) (table_at (suc p) net)
    called = handler_there net (telegram_for f c form b body) (remarked (head f c form b)) (reads_well f c w) (suc p) (first_is f c w mine) (λ z. omega arith) there

    module _ {x y : List ℕ} (same : y ≡ x) where
      -- the call gives y, and a table
      called_on : (t : List ℕ) →
          handling (suc p) (table_at (suc p) net) (telegram_for f c form b body) out ≡ leaving (sent (length y)) t (placed y out) →
          GoesOn net (telegram_for f c form b body) (with_table (suc p) t net) x
      called_on t call =
          let table = table_at (suc p) net in
          let tg = telegram_for f c form b body in
          sends_on net (suc p) table tg out room called x t
          (subst (λ (l : List ℕ). handling (suc p) table tg out ≡ leaving (sent (length l)) t (placed l out)) same call)

      -- a relay leaves the net as it was
      relayed_on : (let table = table_at (suc p) net in
          handling (suc p) table (telegram_for f c form b body) out ≡ leaving (sent (length y)) table (placed y out) →
          GoesOn net (telegram_for f c form b body) net x)
      relayed_on call =
          subst (λ (l : Net). GoesOn net (telegram_for f c form b body) l x) (with_itself (suc p) net) (called_on (table_at (suc p) net) call)

  module _ (c : ℕ) where
    -- a reply goes on, rolled right
    pub hop_reply : GoesOn net (telegram_for Reply c form b body) net (telegram_for Reply c form (roll_right b) body)
    hop_reply =
        let h = remarked (head Reply c form b) in
        relayed_on Reply c (ap₂ telegram_of (relayed_right c form b) (body_behind h body))
        (call_reply (suc p) (table_at (suc p) net) (telegram_of h body) out h (reads_well Reply c w) address long (first_is Reply c w mine) room
        (remarked_function (head Reply c form b)))

    next_is : next (remarked (head Request c form b)).block ≡ next b
    next_is = ap next (remarked_block (head Request c form b))

    -- a request that another station follows goes on, rolled left
    pub hop_request : (next b ≡ 0 → ⊥) → GoesOn net (telegram_for Request c form b body) net (telegram_for Request c form (roll_left b) body)
    hop_request n =
        let h = remarked (head Request c form b) in
        relayed_on Request c (ap₂ telegram_of (relayed_left c form b) (body_behind h body))
        (call_request (suc p) (table_at (suc p) net) (telegram_of h body) out h (reads_well Request c w) address long (first_is Request c w mine) room
        (remarked_function (head Request c form b)) (λ e. n (sym next_is ∙ e)))

    -- the destination accepts it, and answers
    pub hop_accepted : next b ≡ 0 → judged_body body ≡ accepts →
        (let t = after_writes body (table_at (suc p) net) in
        GoesOn net (telegram_for Request c form b body) (with_table (suc p) t net) (telegram_for Reply new_control form (roll_right b) (reply_body body t)))
    hop_accepted n verdict =
        let h = remarked (head Request c form b) in
        let tg = telegram_for Request c form b body in
        let table = table_at (suc p) net in
        let reply = telegram_for Reply new_control form (roll_right b) (reply_body body (after_writes body table)) in
        let behind : body_of h tg ≡ body = body_behind h body in
        subst (λ (l : List ℕ). GoesOn net tg (with_table (suc p) (after_writes l table) net) reply) behind
        (called_on Request c (ap₂ telegram_of (replied_right c form b) (ap (λ (l : List ℕ). reply_body l (after_writes l table)) behind))
        (after_writes (body_of h tg) table)
        (call_accepted (suc p) table tg out h (reads_well Request c w) address long (first_is Request c w mine) room
        (remarked_function (head Request c form b)) (next_is ∙ n) (ap judged_body behind ∙ verdict)))

    -- the destination rejects it
    pub stop_rejected : (k : ℕ) → next b ≡ 0 → judged_body body ≡ rejects k →
        (let tg = telegram_for Request c form b body in Journey net tg (refusal tg net k))
    stop_rejected k n verdict =
        let h = remarked (head Request c form b) in
        let tg = telegram_for Request c form b body in
        let table = table_at (suc p) net in
        subst (λ (l : Net). Journey net tg (refusal tg l k)) (with_itself (suc p) net)
        (refuses_with net (suc p) table tg out room (called Request c) k
        (call_rejected (suc p) table tg out h (reads_well Request c w) address long (first_is Request c w mine) room
        (remarked_function (head Request c form b)) (next_is ∙ n) k (ap judged_body (body_behind h body) ∙ verdict)))

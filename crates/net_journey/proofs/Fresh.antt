-- The journey of a fresh request that its destination accepts: there and back, the values written, and byte for byte.
-- Assumes nothing.
use mathlib.Core.Path.{◌≡◌, refl, sym, ◌∙◌, ap, ap₂, subst}
use mathlib.Core.Bool.{true}
use mathlib.Core.List.{List, [], ◌∷◌, ◌++◌, map, tail, reverse}
use Prim.Native.Nat.{ℕ, zero, suc, ◌-◌, ◌*◌, ◌≤◌}
use native.Mathlib.Omega.{arith}
use lib.ListN.{length, length-append, length-reverse, length-map}
use Rattle.mop_registers.specs.Rows.{table_length}
use Rattle.mop_registers.specs.Runs.{run_exists}
use Rattle.mop_registers.proofs.Runs.{length_writes, writes_keeps, writes_holds}
use Rattle.mop_block.specs.Block.{stations, first, roll_left, roll_right}
use Rattle.mop_header.specs.Header.{Head, head, telegram_of, mark_byte, with_mark, mark_agrees, remarked, new_control}
use Rattle.mop_header.specs.declared.Form.{Form}
use Rattle.mop_header.specs.declared.Function.{Function}
use Rattle.mop_header.specs.declared.Function.TheVariants.{Request, Reply}
use Rattle.mop_header.proofs.Marks.{agrees_remarked}
use Rattle.mop_body.specs.Body.{write_start, values_of}
use Rattle.mop_step.specs.Body.{accepts, judged_body, after_writes, reply_body}
use Rattle.mop_step.proofs.Bodies.{accepted}
use Rattle.mop_step.proofs.Answers.{length_values}
use Rattle.net_journey.specs.Net.{Net, good_net, is_there, all_there, table_at, with_table}
use Rattle.net_journey.specs.Journey.{Course}
use Rattle.net_journey.specs.Terms.{m, shown, there_and_back, WrittenBy, destination}
use Rattle.net_journey.specs.Demand3.{Accomplished}
use Rattle.net_journey.specs.Transmissions.{outward, relayed_block, homeward, request_on, all_telegrams}
use Rattle.net_journey.proofs.Net.{good_table, there_parts}
use Rattle.net_journey.proofs.Ring.{last_of, last_at}
use Rattle.net_journey.proofs.Telegrams.{telegram_for}
use Rattle.net_journey.proofs.Passage.{Fulfilled}

pub length_tail : (l : List ℕ) → length (tail l) ≡ length l - 1
length_tail [] = refl
length_tail (x ∷ l) = omega arith

-- the way back is as long as the way out
length_outward : (k : ℕ) (b : List ℕ) → length (outward k b) ≡ k
length_outward zero b = refl
length_outward (suc k) b = ap suc (length_outward k (roll_left b))

length_homeward : (k : ℕ) (b : List ℕ) → length (homeward k b) ≡ k
length_homeward zero b = refl
length_homeward (suc k) b = ap suc (length_homeward k (roll_right b))

both_ways : (f g : List ℕ → List ℕ) (n k : ℕ) (b d : List ℕ) → k ≡ n → length (map f (outward n b) ++ map g (homeward k d)) ≡ 2 * n
both_ways f g n k b d e =
    omega (
      arith,
      length-append (map f (outward n b)) (map g (homeward k d)),
      length-map (outward n b) f,
      length-map (homeward k d) g,
      length_outward n b,
      length_homeward k d,
    )

-- the table after the writes of an accepted body
pub writes_all : (body t : List ℕ) → judged_body body ≡ accepts → length t ≡ table_length → WrittenBy body t (after_writes body t)
unfolding after_writes
writes_all body t verdict long =
    let a = accepted body verdict in
    let there : run_exists (write_start body) (length (values_of body)) ≡ true = rw (length_values body a) a.there in
    record {
      holds = λ i less. writes_holds t (write_start body) (values_of body) i there long less;
      keeps = λ j other. writes_keeps t (write_start body) (values_of body) j other;
      long = length_writes t (write_start body) (values_of body);
    }

-- the last of several stations is there if all are
there_last : (net : Net) (l : List ℕ) → 1 ≤ length l → all_there l net ≡ true → is_there (last_of l) net ≡ true
there_last net [] some all = absurd (omega arith)
there_last net (a ∷ []) some all = (there_parts a [] net all).0
there_last net (a ∷ b ∷ l) some all = there_last net (b ∷ l) (omega arith) (there_parts a (b ∷ l) net all).1

-- a request whose mark agrees keeps it
module _ (h : Head) (request : h.function ≡ Request) (mark : mark_agrees h ≡ true) where
  mark_kept : with_mark h.form 0xEF ≡ h.form
  unfolding remarked mark_byte
  mark_kept =
      ap (λ (f : Function). with_mark h.form (mark_byte f (first h.block))) (sym request)
      ∙ ap (λ (g : Head). g.form) (agrees_remarked h mark)

  requests_same : (body : List ℕ) (l : List (List ℕ)) →
      map (λ (b : List ℕ). telegram_for Request h.control h.form b body) l ≡ map (request_on h body) l
  unfolding remarked mark_byte
  requests_same body l = ap (λ (form : Form). map (λ (b : List ℕ). telegram_of (head Request h.control form b) body) l) mark_kept

-- what the induction gave, of the stations that the block names
module _ (net : Net) (h : Head) (body : List ℕ) (d : Course) (x : Fulfilled net h.control h.form h.block body (stations h.block) [] d) where
  at_destination : last_of (stations h.block) ≡ destination h
  at_destination = sym (last_at (stations h.block))

  module _ (fit : good_net net ≡ true) (some : 1 ≤ length (stations h.block)) (all : all_there (stations h.block) net ≡ true)
      (verdict : judged_body body ≡ accepts) where
    passage_is : map shown d.transmissions ≡ there_and_back (stations h.block) body (reply_body body (table_at (destination h) d.after))
    passage_is =
        subst (λ (a : ℕ). map shown d.transmissions ≡ there_and_back (stations h.block) body (reply_body body (table_at a d.after)))
        at_destination x.passage

    written_last : (let a = last_of (stations h.block) in WrittenBy body (table_at a net) (table_at a d.after))
    written_last =
        let a = last_of (stations h.block) in
        subst (λ (t : List ℕ). WrittenBy body (table_at a net) t) (sym x.written)
        (writes_all body (table_at a net) verdict (good_table a net fit (there_last net (stations h.block) some all)))

    pub fulfilled : Accomplished net h body d
    fulfilled = let route = stations h.block in record {
      count = ap length x.telegrams
          ∙ both_ways _ _ (m h) (length (reverse route)) h.block (relayed_block (length (tail route)) h.block) (length-reverse route);
      passage = passage_is;
      ending = x.ending;
      written = subst (λ (a : ℕ). WrittenBy body (table_at a net) (table_at a d.after)) at_destination written_last;
      others = subst (λ (a : ℕ). d.after ≡ with_table a (table_at a d.after) net) at_destination x.others;
    }

  pub in_bytes : h.function ≡ Request → mark_agrees h ≡ true →
      d.transmissions ≡ all_telegrams h body (reply_body body (table_at (destination h) d.after))
  in_bytes request mark =
      let route = stations h.block in
      x.telegrams
      ∙ ap₂ (λ (u v : List (List ℕ)). u ++ v) (requests_same h request mark body (outward (length route) h.block))
      (ap₂ (λ (n k : ℕ). map (replies (last_of route)) (homeward n (relayed_block k h.block))) (length-reverse route) (length_tail route)
      ∙ ap (λ (a : ℕ). map (replies a) (homeward (length route) (relayed_block (length route - 1) h.block))) at_destination)
    where
      replies : ℕ → List ℕ → List ℕ
      replies a b = telegram_for Reply new_control h.form b (reply_body body (table_at a d.after))

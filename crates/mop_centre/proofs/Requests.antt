-- Writing a request: its body stored, the refusals in turn, and its length.
-- Assumes nothing.
use mathlib.Core.Path.{◌≡◌, refl, subst}
use mathlib.Core.Bool.{Bool, true, false, not, ◌||◌, or-true}
use mathlib.Core.List.{List, [], ◌∷◌, ◌++◌}
use Prim.Native.Nat.{ℕ, ◌+◌, ◌-◌, ◌*◌, ◌≤◌, ◌<◌}
use native.Mathlib.Omega.{arith}
use borrow.Author.Tests.{ltb-false, lt-ltb, le-ltb, leb-true, leb-false, not-false}
use lib.Dec.{ltb, leb}
use lib.ListN.{length, take, length-append, length-replicate}
use lib.Seq.{sets}
use Rattle.base.specs.Choice.{pick}
use Rattle.base.specs.Words.{high_byte, low_byte, bytes_of}
use Rattle.base.proofs.Tests.{neither}
use Rattle.base.specs.Filling.{filled, refused, Filling, denied, written, fitted}
use Rattle.base.proofs.Places.{take_sets, take_placed}
use Rattle.mop_block.specs.Zipper.{zeros}
use Rattle.mop_header.specs.Header.{head, header_length, new_control}
use Rattle.mop_header.specs.declared.Function.TheVariants.{Request}
use Rattle.mop_header.specs.declared.Form.TheVariants.{Standard, Extended}
use Rattle.mop_header.proofs.Lengths.{length_header}
use Rattle.mop_header.proofs.Writing.{length_telegram}
use Rattle.mop_body.specs.Body.{request_body}
use Rattle.mop_body.proofs.Bodies.{length_request_body}
use Rattle.mop_centre.specs.Request.{max_route, good_route, request_head, max_run, request_telegram, requesting, max_request, RequestBound}
use Rattle.mop_centre.proofs.Routes.{Route, route_parts, standard_head, extended_head}

-- six bytes and the values behind them, in the first places
pub body_stored : (rStart rCount wStart : ℕ) (values rest : List ℕ) → 2 * length values ≤ length rest →
    take (6 + 2 * length values)
    (sets (high_byte rStart ∷ low_byte rStart ∷ rCount ∷ high_byte wStart ∷ low_byte wStart ∷ length values ∷ rest) 6 (bytes_of values))
    ≡ request_body rStart rCount wStart values
unfolding request_body
body_stored rStart rCount wStart values rest h =
    let long = length_request_body rStart rCount wStart values in
    let first = high_byte rStart ∷ low_byte rStart ∷ rCount ∷ high_byte wStart ∷ low_byte wStart ∷ length values ∷ rest in
    subst (λ (n : ℕ). take n (sets first 6 (bytes_of values)) ≡ request_body rStart rCount wStart values) long
    (take_sets (request_body rStart rCount wStart values) first (omega arith))

module _ (route : List ℕ) (rStart rCount wStart : ℕ) (values out : List ℕ) where
  pub bad_route : good_route route ≡ false → requesting route rStart rCount wStart values out ≡ denied 5 out
  unfolding requesting
  bad_route e = rw e

  module _ (good : good_route route ≡ true) where
    pub long_read : max_run < rCount → requesting route rStart rCount wStart values out ≡ denied 12 out
    unfolding requesting
    long_read h = rw (good, lt-ltb max_run rCount h)

    pub long_write : max_run < length values → requesting route rStart rCount wStart values out ≡ denied 12 out
    unfolding requesting
    long_write h = rw (good, lt-ltb max_run (length values) h, or-true (ltb max_run rCount))

    pub request_fitted : rCount ≤ max_run → length values ≤ max_run →
        requesting route rStart rCount wStart values out ≡ fitted (request_telegram route rStart rCount wStart values) out
    unfolding requesting
    request_fitted h k = rw (good, le-ltb max_run rCount h, le-ltb max_run (length values) k)

-- a call that gives a length was refused by no test
module _ (out : List ℕ) (n : ℕ) where
  refused_filled : (k : ℕ) → refused k ≡ filled n → ⊥
  refused_filled k e = let z : ◌≡◌ {A = ℕ} 0 1 = cc in omega arith

  passed : (t : Bool) (k : ℕ) (x : Filling) → (pick t (denied k out) x).given ≡ filled n → (t ≡ false) × (x.given ≡ filled n)
  passed true k x e = absurd (refused_filled k e)
  passed false k x e = (refl, e)

same_length : (a n : ℕ) → filled a ≡ filled n → a ≡ n
same_length a n e = cc

-- what it wrote
pub record Wrote (route : List ℕ) (rStart rCount wStart : ℕ) (values out : List ℕ) (n : ℕ) : Type 0 where
  pub good : Route route
  pub few_written : length values ≤ max_run
  pub long : length (request_telegram route rStart rCount wStart values) ≡ n
  pub bytes : take n (requesting route rStart rCount wStart values out).output ≡ request_telegram route rStart rCount wStart values

module _ (route : List ℕ) (rStart rCount wStart : ℕ) (values out : List ℕ) (n : ℕ) where
  pub wrote : (requesting route rStart rCount wStart values out).given ≡ filled n → Wrote route rStart rCount wStart values out n
  unfolding requesting fitted
  wrote e =
      let telegram = request_telegram route rStart rCount wStart values in
      let p = passed out n (not (good_route route)) 5 _ e in
      let q = passed out n (ltb max_run rCount || ltb max_run (length values)) 12 _ p.1 in
      let r = passed out n (ltb (length out) (length telegram)) 11 (written telegram out) q.1 in
      let good = not-false (good_route route) p.0 in
      let few = neither (ltb max_run rCount) (ltb max_run (length values)) q.0 in
      let long : length telegram ≡ n = same_length (length telegram) n r.1 in
      record {
        good = route_parts route good;
        few_written = ltb-false max_run (length values) few.1;
        long = long;
        bytes = rw (good, q.0, r.0, ← long) (take_placed telegram out);
      }

-- its length: a header of six bytes, or of eight and the stations
module _ (route : List ℕ) where
  standard_length : length route ≤ 3 → length (route ++ zeros (4 - length route)) ≡ 4
  standard_length few = simp (length-append, length-replicate) (omega arith)

  head_by : length route ≤ max_route → (t : Bool) → leb (length route) 3 ≡ t → header_length (request_head route) ≤ 39
  head_by most true e =
      let few : length route ≤ 3 = leb-true (length route) 3 e in
      let h = head Request new_control Standard (route ++ zeros (4 - length route)) in
      rw (standard_head route few) (omega (arith, length_header h, standard_length few))
  head_by most false e =
      let h = head Request new_control (Extended 0xEF) (route ++ (0 ∷ [])) in
      rw (extended_head route (leb-false (length route) 3 e)) (omega (arith, length_header h, length-append route (0 ∷ [])))

pub request_most : (route : List ℕ) (rStart rCount wStart : ℕ) (values : List ℕ) → Route route → length values ≤ max_run →
    length (request_telegram route rStart rCount wStart values) ≤ max_request
unfolding request_telegram
request_most route rStart rCount wStart values r few =
    let body = request_body rStart rCount wStart values in
    omega (
      arith,
      length_telegram (request_head route) body,
      head_by route r.most (leb (length route) 3) refl,
      length_request_body rStart rCount wStart values,
    )

pub request_bound : RequestBound
request_bound route rStart rCount wStart values out n e =
    let w = wrote route rStart rCount wStart values out n e in
    omega (arith, w.long, request_most route rStart rCount wStart values w.good w.few_written)

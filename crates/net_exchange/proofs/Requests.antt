-- A request of the centre, as a station reads it.
-- Assumes nothing.
use mathlib.Core.Path.{◌≡◌, refl, sym, ◌∙◌, ap, subst}
use mathlib.Core.Bool.{Bool, true, false}
use mathlib.Core.List.{List, [], ◌∷◌, ◌++◌, append-nil}
use Prim.Native.Nat.{ℕ, suc, ◌+◌, ◌-◌, ◌≤◌, ◌<◌}
use native.Mathlib.Omega.{arith}
use borrow.Author.Tests.{leb-true, leb-false, eq-eqb, le-leb}
use lib.Dec.{leb}
use lib.ListN.{length, get_or, length-append, length-replicate}
use Rattle.base.specs.Filling.{Filling}
use Rattle.mop_block.specs.Block.{stations, first}
use Rattle.mop_block.specs.Zipper.{zeros, spread, Full, nil, cons, Once}
use Rattle.mop_block.proofs.Counts.{distinct_once}
use Rattle.mop_block.proofs.Stations.{distinct_full, stations_full, stations_spread}
use Rattle.mop_block.proofs.Zipper.{last_zero, view_is_good}
use Rattle.mop_header.specs.Header.{Head, head, mark_byte, mark_is, mark_agrees, new_control}
use Rattle.mop_reader.specs.Reading.{allowed, good_for}
use Rattle.mop_reader.specs.ReadBack.{sized, InOrder}
use Rattle.mop_header.specs.declared.Function.TheVariants.{Request}
use Rattle.mop_header.specs.declared.Form.{Form}
use Rattle.mop_header.specs.declared.Form.TheVariants.{Standard, Extended}
use Rattle.mop_reader.specs.declared.Reader.TheVariants.{Station}
use Rattle.mop_reader.proofs.ReadBack.{reads_back}
use Rattle.mop_body.specs.Body.{read_start, read_count, write_start, write_count, values_of, request_body}
use Rattle.mop_body.proofs.Bodies.{read_start_back, read_count_back, write_start_back, write_count_back, values_back, length_request_body}
use Rattle.mop_centre.specs.Request.{request_head, request_telegram, max_run}
use Rattle.mop_centre.proofs.Routes.{Route, route_parts, standard_head, extended_head}
use Rattle.mop_centre.proofs.Requests.{request_fitted, wrote, request_most}
use Rattle.base.proofs.Filling.{fitted_room}
use Rattle.net_journey.specs.Terms.{Fresh}
use Rattle.net_journey.proofs.Ring.{last_of, last_append, last_at}
use Rattle.net_exchange.specs.ReadBack.{route_end, ReadsAs, RequestReadsBack, EveryRequestFits}

-- the header of a route: its stations ahead, 00s, and nothing passed yet
pub record Shape (route : List ℕ) : Type 0 where
  pub form : Form
  pub gap : ℕ
  pub is : request_head route ≡ head Request new_control form (spread route gap [])
  pub size : sized form (length (spread route gap [])) ≡ true
  pub mark : mark_is form 0xEF ≡ true

length_start : (route : List ℕ) (z : ℕ) → length (spread route z []) ≡ length route + suc z
length_start route z = simp (append-nil, length-append, length-replicate) (omega arith)

shape_by : (route : List ℕ) → Route route → (t : Bool) → leb (length route) 3 ≡ t → Shape route
unfolding sized mark_is
shape_by route r true e =
    let few : length route ≤ 3 = leb-true (length route) 3 e in
    let gap = 3 - length route in
    let more : 4 - length route ≡ suc gap = omega arith in
    record {
      form = Standard;
      gap = gap;
      is = standard_head route few ∙ ap (λ (l : List ℕ). head Request new_control Standard (route ++ l)) (ap zeros more ∙ ap (λ (l : List ℕ). 0 ∷ l) (sym (append-nil (zeros gap))));
      size = eq-eqb (length (spread route gap [])) 4 (length_start route gap ∙ omega arith);
      mark = refl;
    }
shape_by route r false e =
    let many : 3 < length route = leb-false (length route) 3 e in
    let long = length_start route 0 in
    record {
      form = Extended 0xEF;
      gap = 0;
      is = extended_head route many;
      size = rw (le-leb 2 (length (spread route 0 [])) (omega arith), le-leb (length (spread route 0 [])) 32 (omega (arith, r.most)));
      mark = refl;
    }

pub shape : (route : List ℕ) → Route route → Shape route
shape route r = shape_by route r (leb (length route) 3) refl

-- a route is stations, each once
pub route_full : {route : List ℕ} → Route route → Full route
route_full {route} r = distinct_full route r.distinct

pub route_once : {route : List ℕ} → Route route → Once route
route_once {route} r = distinct_once route (rw (stations_full (route_full r)) r.distinct)

first_station : {route : List ℕ} → Full route → 1 ≤ length route → (z : ℕ) → first (spread route z []) ≡ 0 → ⊥
unfolding first
first_station nil some z e = omega arith
first_station (cons f) some z e = omega arith

-- a header with stations ahead and nothing passed
module _ (route : List ℕ) (r : Route route) (form : Form) (z : ℕ) where
  last_entry : get_or (spread route z []) (length (spread route z []) - 1) 0 ≡ 0
  last_entry = last_at (spread route z []) ∙ ap last_of (last_zero route z) ∙ last_append (route ++ zeros z) 0 []

  start_named : stations (spread route z []) ≡ route
  start_named = stations_spread z (route_full r) nil ∙ append-nil route

  start_fresh : Fresh (head Request new_control form (spread route z []))
  start_fresh = record { request = refl; first_named = first_station (route_full r) r.some z; last_zero = last_entry }

  start_order : sized form (length (spread route z [])) ≡ true → mark_is form 0xEF ≡ true → InOrder Station (head Request new_control form (spread route z []))
  unfolding allowed good_for mark_agrees mark_byte
  start_order size mark = record {
    function = refl;
    size = size;
    block = view_is_good route z [] (route_full r) nil (route_once r);
    mark = mark;
  }

pub route_order : (route : List ℕ) → Route route → InOrder Station (request_head route)
route_order route r =
    let s = shape route r in
    subst (InOrder Station) (sym s.is) (start_order route r s.form s.gap s.size s.mark)

-- the telegram is read as what was asked for
module _ (route : List ℕ) (rStart rCount wStart : ℕ) (values : List ℕ) (r : Route route) where
  route_named : stations (request_head route).block ≡ route
  route_named = let s = shape route r in ap (λ (h : Head). stations h.block) s.is ∙ start_named route r s.form s.gap

  pub request_read : length values ≤ max_run → ReadsAs route rStart rCount wStart values (request_telegram route rStart rCount wStart values)
  unfolding request_telegram
  request_read few =
      let h = request_head route in
      let body = request_body rStart rCount wStart values in
      let s = shape route r in
      let back = reads_back Station h body (route_order route r) (omega (arith, request_most route rStart rCount wStart values r few)) in
      record {
        order = back.0;
        named = route_named;
        fresh = subst Fresh (sym s.is) (start_fresh route r s.form s.gap);
        many = ap length route_named;
        last = ap route_end route_named;
        read_start_lem = ap read_start back.1 ∙ read_start_back rStart rCount wStart values;
        read_count_lem = ap read_count back.1 ∙ read_count_back rStart rCount wStart values;
        write_start_lem = ap write_start back.1 ∙ write_start_back rStart rCount wStart values;
        write_count_lem = ap write_count back.1 ∙ write_count_back rStart rCount wStart values;
        values_back = ap values_of back.1 ∙ values_back rStart rCount wStart values;
        whole_body = ap length back.1 ∙ length_request_body rStart rCount wStart values;
      }

pub request_reads_back : RequestReadsBack
request_reads_back route rStart rCount wStart values out n e =
    let w = wrote route rStart rCount wStart values out n e in
    subst (ReadsAs route rStart rCount wStart values) (sym w.bytes) (request_read route rStart rCount wStart values w.good w.few_written)

pub every_request_fits : EveryRequestFits
every_request_fits route rStart rCount wStart values out good few-read few_written room =
    let telegram = request_telegram route rStart rCount wStart values in
    let fits : length telegram ≤ length out = omega (arith, request_most route rStart rCount wStart values (route_parts route good) few_written) in
    (length telegram, ap (λ (f : Filling). f.given) (request_fitted route rStart rCount wStart values out good few-read few_written ∙ fitted_room telegram out fits))

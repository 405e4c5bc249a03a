-- `write_request`: the route, the runs, then the telegram.
-- Assumes nothing.
use mathlib.Core.Path.{sym, ◌∙◌, ap₂}
use mathlib.Core.List.{List}
use Prim.Native.Nat.{ℕ}
use native.Mathlib.Omega.{arith}
use Rattle.base.specs.Filling.{fitted}
use Rattle.mop_header.specs.Header.{Head, telegram_of}
use Rattle.mop_centre.specs.Request.{request_telegram}
use Rattle.mop_centre.proofs.Routes.{route_parts}
use Rattle.mop_centre.proofs.Requests.{bad_route, long_read, long_write, request_fitted}
use Rattle.mop_centre.proofs.write_request.Goals as goal
use Rattle.mop_centre.proofs.write_request.Goals.{then-rcount-gt-MAX_RUN-via-then-rcount-gt-MAX_RUN, then-rcount-gt-MAX_RUN-via-else-rcount-gt-MAX_RUN+then-values-gt-MAX_RUN}

pub returns-then-not-is_route : goal.returns-then-not-is_route
returns-then-not-is_route c = sym (bad_route _ _ _ _ _ _ (sym c.is_route.ensures ∙ c.if-not-is_route.true))

pub returns-then-rcount-gt-MAX_RUN : goal.returns-then-rcount-gt-MAX_RUN
returns-then-rcount-gt-MAX_RUN c =
    let good = sym c.is_route.ensures ∙ c.if-not-is_route.false in
    elim c.then-rcount-gt-MAX_RUN.branch [
      | then-rcount-gt-MAX_RUN-via-then-rcount-gt-MAX_RUN w ↦ sym (long_read _ _ c.args.rcount _ _ _ good (omega (arith, w.if-rcount-gt-MAX_RUN.true)))
      | then-rcount-gt-MAX_RUN-via-else-rcount-gt-MAX_RUN+then-values-gt-MAX_RUN w ↦ sym (long_write _ _ _ _ _ _ good w.if-values-gt-MAX_RUN.true)
    ]

pub request_header-requires : goal.request_header-requires
request_header-requires c = (route_parts _ (sym c.is_route.ensures ∙ c.if-not-is_route.false)).most

pub returns : goal.returns
unfolding request_telegram
returns c =
    let out = c.args.out.now in
    let good = sym c.is_route.ensures ∙ c.if-not-is_route.false in
    c.write.ensures
    ∙ ap₂ (λ (h : Head) (l : List ℕ). fitted (telegram_of h l) out) c.request_header.ensures c.request_body-body.ensures
    ∙ sym (request_fitted _ _ _ _ _ _ good (omega arith) c.if-values-gt-MAX_RUN.false)

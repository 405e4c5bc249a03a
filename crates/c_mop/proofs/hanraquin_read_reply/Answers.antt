-- `hanraquin_read_reply`: the tests of the places, and then the reading.
-- Assumes nothing.
use mathlib.Core.Path.{sym, ◌∙◌}
use Rattle.c_mop.proofs.Replies.{are_places, bad_route, bad_run, with_places}
use Rattle.c_mop.proofs.hanraquin_read_reply.Goals as goal
use Rattle.c_mop.proofs.hanraquin_read_reply.Goals.{then-route-ne-MAX_ROUTE-via-then-route-ne-MAX_ROUTE, then-route-ne-MAX_ROUTE-via-else-route-ne-MAX_ROUTE+then-run-ne-RUN_PLACES}

pub returns-then-route-ne-MAX_ROUTE : goal.returns-then-route-ne-MAX_ROUTE
returns-then-route-ne-MAX_ROUTE c =
    rw c.refused.ensures
    (elim c.then-route-ne-MAX_ROUTE.branch [
      | then-route-ne-MAX_ROUTE-via-then-route-ne-MAX_ROUTE w ↦ sym (bad_route _ _ _ w.if-route-ne-MAX_ROUTE.true)
      | then-route-ne-MAX_ROUTE-via-else-route-ne-MAX_ROUTE+then-run-ne-RUN_PLACES w ↦ sym (bad_run _ _ _ w.if-run-ne-RUN_PLACES.true)
    ])

pub tell_reply-requires : goal.tell_reply-requires
tell_reply-requires c = are_places _ _ c.if-route-ne-MAX_ROUTE.false c.if-run-ne-RUN_PLACES.false

pub returns : goal.returns
returns c =
    rw c.of_handled.ensures c.tell_reply.ensures
    ∙ sym (with_places _ _ _ (are_places _ _ c.if-route-ne-MAX_ROUTE.false c.if-run-ne-RUN_PLACES.false))

-- How large the value of the sender's call is.
-- Assumes nothing.
use mathlib.Core.Path.{subst}
use Rattle.c_link_send.specs.Bounds.{SendBounds}
use Rattle.c_link_send.specs.Private.Small.{SmallResponse}
use Rattle.c_link_send.proofs.Endings.{send_small, value_bound}

pub send_bounds : SendBounds
send_bounds = record {
  bytes = λ s e d buf out n is. subst SmallResponse is (send_small s e d buf out);
  message = λ s e d buf out n count is. subst SmallResponse is (send_small s e d buf out);
  value = value_bound;
}

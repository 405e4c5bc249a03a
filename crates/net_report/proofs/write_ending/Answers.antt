-- `write_ending`: nothing, or a space and the refusal.
-- Assumes nothing.
use mathlib.Core.Logic.{◌⊎◌, inl, inr}
use mathlib.Core.Path.{◌≡◌, refl, ap, sym, ◌∙◌}
use Rattle.base.specs.Private.Writing.{writing}
use Rattle.base.proofs.Writing.{nothing_written, behind_copy}
use Rattle.refusal.specs.Numbers.{number_of}
use mathlib.Core.List.{[], ◌∷◌}
use native.Mathlib.Omega.{arith}
use lib.ListN.{length-set}
use Rattle.net_hop.specs.Hop.{ending_of}
use Rattle.net_hop.specs.declared.JourneyEnd.{JourneyEnd}
use Rattle.net_hop.specs.declared.JourneyEnd.TheVariants.{AtZero, AtNobody}
use Rattle.net_report.specs.Text.{space, refused_text, ending_text}
use Rattle.net_report.proofs.write_ending.Goals as goal

pub write_refused-requires : goal.write_refused-requires
write_refused-requires c = simp length-set (omega arith)

no_refusal : (e : JourneyEnd) → (e ≡ AtZero) ⊎ (e ≡ AtNobody) → ending_text (ending_of e) ≡ []
unfolding ending_text
no_refusal e (inl is) = rw is
no_refusal e (inr is) = rw is

pub returns-in-AtZero : goal.returns-in-AtZero
returns-in-AtZero c =
    let a = c.args in
    record { out_after = rw (no_refusal a.end c.in-AtZero.is) (nothing_written a.at a.out.now); upper_bound = omega arith }

pub shape_of-out : goal.shape_of-out
shape_of-out c = c.write_refused.auto.out ∙ simp length-set

pub returns-in-Refused : goal.returns-in-Refused
unfolding ending_text
returns-in-Refused c =
    let a = c.args in
    let k = number_of c.in-Refused.refusal in
    let w = c.write_refused.ensures in record {
      out_after = behind_copy a.at (space ∷ []) (refused_text k) a.out.now refl w.out_after
          ∙ ap (λ (e : JourneyEnd). writing a.at (ending_text (ending_of e)) a.out.now) (sym c.in-Refused.is);
      upper_bound = omega (arith, w.upper_bound);
    }

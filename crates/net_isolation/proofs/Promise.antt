-- What the statement calls the promise of `dry_run` is what its contract ensures, and the contract asks nothing of the caller: with
-- another contract one of the two would be refused.
-- Assumes nothing.
use contract.Lifetimes.{Lfts}
use borrow.Fn.Kinds.{Dens, ended_of}
use denote.Triple.Clauses.{AtExit}
use Rattle.std.specs.Prelude.{Result}
use Rattle.refusal.specs.declared.Refusal.{Refusal}
use Rattle.net_dry_run.specs.declared.Played.{Played}
use Rattle.net_dry_run.proofs.dry_run.Kinds.{ps, r}
use Rattle.net_dry_run.proofs.dry_run.Reads.{Pre, Post}
use Rattle.net_isolation.specs.Isolated.{KeepsPromise}

-- a has what is lent, telegram, addresses, tables and output, at the call, and s at the return; x is the answer
module _ (κs : Lfts 4) (a : Dens κs ps) where
  pub dry_run_promises : (x : Result Played Refusal) (s : AtExit (ended_of 4 ps r) κs) → Post κs a x s →
      KeepsPromise a.0.now a.1.0.now a.1.1.0.now a.1.1.1.0.now x s.1.1.0.now s.1.1.1.0.now
  dry_run_promises x s p = p

  pub dry_run_asks_nothing : Pre κs a
  dry_run_asks_nothing = tt

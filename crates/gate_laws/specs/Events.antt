-- What holds of every event.
-- Assumes nothing.
use Rattle.std.specs.Prelude.{ℕ, ◌≡◌, List, length, get_or, take}
use Rattle.base.specs.Places.{placed}
use Rattle.gate_receive.specs.Receive.{Response, nothing, telegram, token, refuses, Outcome, with, to, starting_again, receive_of}
use Rattle.events.specs.declared.Event.{Event}
use Rattle.gate_receive.specs.declared.GateState.{GateState}
use Rattle.gate_receive.specs.declared.GateState.TheVariants.{Rest, AtDestination, AtSource, AtLength, AtData, AtLowCheck, OthersSource, OthersLength, Dropping}

-- a refusal with 1 keeps all, and every other leaves exactly the fresh state, with store and output as they were
pub record RefusedLeaves (s : GateState) (st out : List ℕ) (o : Outcome) (k : ℕ) : Type 0 where
  pub kept : k ≡ 1 → o ≡ with (to (refuses 1) s) st out
  pub again : (k ≡ 1 → ⊥) → o ≡ with (starting_again (refuses k)) st out

abbrev pub RefusedStartsAgain : Type 0
RefusedStartsAgain =
    (own : ℕ) (s : GateState) (st : List ℕ) (e : Event) (out : List ℕ) (k : ℕ) →
    (receive_of own s st e out).reaction.response ≡ refuses k → RefusedLeaves s st out (receive_of own s st e out) k

-- what an answer leaves of the output: an accepted telegram its data in the first places, all else as it was
abbrev pub output_after : Response → List ℕ → List ℕ → List ℕ
output_after nothing st out = out
output_after (telegram s n) st out = placed (take n st) out
output_after (token s) st out = out
output_after (refuses k) st out = out

abbrev pub OnlyAcceptedIsPut : Type 0
OnlyAcceptedIsPut =
    (own : ℕ) (s : GateState) (st : List ℕ) (e : Event) (out : List ℕ) →
    (receive_of own s st e out).output ≡ output_after (receive_of own s st e out).reaction.response st out

-- the place that an event may write: the count of data bytes stored, in the one phase that has it
abbrev pub place_of : GateState → ℕ → Type 0
place_of Rest i = ⊥
place_of AtDestination i = ⊥
place_of (AtSource d c) i = ⊥
place_of (AtLength d s c) i = ⊥
place_of (AtData d s n k c) i = i ≡ k
place_of (AtLowCheck d s n c h) i = ⊥
place_of OthersSource i = ⊥
place_of OthersLength i = ⊥
place_of (Dropping left) i = ⊥

-- a store after a write at that place at most
pub record StoreKept (s : GateState) (before after : List ℕ) : Type 0 where
  pub long : length after ≡ length before
  pub kept : (i : ℕ) → (place_of s i → ⊥) → get_or after i 0 ≡ get_or before i 0

abbrev pub StoresAtCount : Type 0
StoresAtCount =
    (own : ℕ) (s : GateState) (st : List ℕ) (e : Event) (out : List ℕ) → StoreKept s st (receive_of own s st e out).store

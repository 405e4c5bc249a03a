-- Bytes written one after the other: what is left is written in parts.
-- Assumes nothing.
use mathlib.Core.Path.{◌≡◌, sym, ◌∙◌, ap, ap₂}
use mathlib.Core.List.{List, [], ◌∷◌, ◌++◌, append_assoc}
use Prim.Native.Nat.{ℕ, ◌+◌, ◌-◌, ◌≤◌}
use native.Mathlib.Nat.{add_assoc, add-zero}
use native.Mathlib.Omega.{arith}
use lib.ListN.{length, take, drop, set, length-append, length-drop}
use lib.Seq.{sets, sets-eq, drop-drop, length-take-le}
use Rattle.base.specs.Private.Writing.{Writing, writing_of, writing}
use Rattle.base.proofs.Places.{sets_append, sets_all}

-- the next places of equal writings
pub same_place : {v w : Writing} → v ≡ w → v.at ≡ w.at
same_place e = ap (λ (w : Writing). w.at) e

pub nothing_written : (at : ℕ) (out : List ℕ) → writing_of at out ≡ writing at [] out
nothing_written at out = rw add-zero

pub writing_append : (at : ℕ) (xs ys out : List ℕ) → writing (at + length xs) ys (sets out at xs) ≡ writing at (xs ++ ys) out
writing_append at xs ys out = sym (rw (length-append xs ys, sets_append out at xs ys, add_assoc at (length xs) (length ys)))

-- what is left, as the part that is written next and what is left then
pub record Splits (left part rest : List ℕ) : Type 0 where
  pub is : left ≡ part ++ rest

-- what stays equal while a part is written
pub writing_step : {left part rest : List ℕ} {whole : Writing} → Splits left part rest → (at : ℕ) (out : List ℕ) →
    writing at left out ≡ whole → writing (at + length part) rest (sets out at part) ≡ whole
writing_step {part = part} {rest = rest} s at out k =
    writing_append at part rest out ∙ sym (ap (λ (l : List ℕ). writing at l out) s.is) ∙ k

-- the part is written by a call
pub writing_call : {left part rest : List ℕ} {w whole : Writing} → Splits left part rest → (at : ℕ) (out : List ℕ) →
    w ≡ writing at part out → writing at left out ≡ whole → writing w.at rest w.output ≡ whole
writing_call {rest = rest} s at out e k = ap (λ (w : Writing). writing w.at rest w.output) e ∙ writing_step s at out k

-- nothing is left
pub writing_end : {left : List ℕ} {whole : Writing} → left ≡ [] → (at : ℕ) (out : List ℕ) → writing at left out ≡ whole →
    writing_of at out ≡ whole
writing_end e at out k = nothing_written at out ∙ sym (ap (λ (l : List ℕ). writing at l out) e) ∙ k

-- what is written behind bytes
module _ (at : ℕ) (xs : List ℕ) where
  pub behind : (ys out : List ℕ) {w v : Writing} → w ≡ writing at xs out → v ≡ writing w.at ys w.output → v ≡ writing at (xs ++ ys) out
  behind ys out e f = f ∙ ap (λ (w : Writing). writing w.at ys w.output) e ∙ writing_append at xs ys out

  -- behind bytes that were copied
  pub behind_copy : (ys out : List ℕ) {l : List ℕ} {v : Writing} → l ≡ sets out at xs → v ≡ writing (at + length xs) ys l →
      v ≡ writing at (xs ++ ys) out
  behind_copy ys out e f = behind ys out (ap (writing_of (at + length xs)) e) f

  -- one byte, by a store
  pub behind_store : (b : ℕ) (out : List ℕ) {w : Writing} → w ≡ writing at xs out →
      writing_of (w.at + 1) (set w.output w.at b) ≡ writing at (xs ++ (b ∷ [])) out
  behind_store b out e = ap (λ (w : Writing). writing w.at (b ∷ []) w.output) e ∙ writing_append at xs (b ∷ []) out

-- bytes that fill a part of the output, which was lent
pub part_written : (at : ℕ) (xs out : List ℕ) {end : ℕ} {part : List ℕ} → end ≡ at + length xs → end ≤ length out →
    part ≡ sets (take (end - at) (drop at out)) 0 xs →
    writing_of end (take at out ++ (part ++ drop (end - at) (drop at out))) ≡ writing at xs out
part_written at xs out {end} {part} e room p =
    let n : end - at ≡ length xs = omega arith in
    let long : length (take (end - at) (drop at out)) ≡ end - at = length-take-le (end - at) (drop at out) (rw length-drop (omega arith)) in
    let all : part ≡ xs = p ∙ sets_all xs (take (end - at) (drop at out)) (sym (long ∙ n)) in
    ap₂ writing_of e
    (rw (all, n, drop-drop (length xs) at out)
    (sym (append_assoc (take at out) xs (drop (at + length xs) out)) ∙ sym (sets-eq xs out at (omega arith))))

-- A list with new first places.
-- Assumes nothing.
use Rattle.std.specs.Prelude.{ℕ, List, ◌++◌, length, drop}

-- new values in the first places of a list, the rest as it was
unfoldable pub placed : List ℕ → List ℕ → List ℕ
placed new old = new ++ drop (length new) old

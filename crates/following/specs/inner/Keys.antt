-- The parts of a name in lent memory: of each declaration its place in the sheet, and whether it joins its records. These are its key.
--
--               Key == what rows are followed by, of one part
--     key_of joins d == the key of the declaration d
--          key_words == how many words a key has
--        key_at ws k == the k-th key in the words ws
--   keys_from ws k n == n keys, the k-th first
--       keys_at ws n == the first n keys
--
-- Assumes nothing.
use Rattle.std.specs.Prelude.{Bool, List, [], ◌∷◌, ℕ, zero, suc, ◌+◌, ◌*◌, eqb, get_or, not}
use Rattle.sheet.specs.declared.declaration.Declaration.{Declaration}

pub record Key : Type 0 where
  pub place : ℕ
  pub joins : Bool

abbrev pub key_of : (Declaration → Bool) → Declaration → Key
key_of joins d = record { place = d.name.from; joins = joins d }

abbrev pub key_words : ℕ
key_words = 2

unfoldable pub key_at : (words : List ℕ) (index : ℕ) → Key
key_at ws k = record { place = get_or ws (k * key_words) 0; joins = not (eqb (get_or ws (k * key_words + 1) 0) 0) }

abbrev pub keys_from : (words : List ℕ) (index count : ℕ) → List Key
keys_from ws k zero = []
keys_from ws k (suc n) = key_at ws k ∷ keys_from ws (suc k) n

abbrev pub keys_at : (words : List ℕ) (count : ℕ) → List Key
keys_at ws n = keys_from ws 0 n

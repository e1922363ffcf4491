-- Numbers of a fixed width, from Encoding, "Non-varint Numbers": the lowest byte first.
--
--   little_of k v == the k bytes of v, the lowest first
--      little bs == the number that bytes are, the lowest first
--
-- Assumes nothing.
use Rattle.std.specs.Prelude.{List, [], ◌∷◌, ℕ, zero, suc, ◌+◌, ◌*◌, ◌/◌, ◌%◌}

unfoldable pub little_of : (width v : ℕ) → List ℕ
little_of zero v = []
little_of (suc k) v = (v % 256) ∷ little_of k (v / 256)

unfoldable pub little : List ℕ → ℕ
little [] = 0
little (b ∷ bs) = b + 256 * little bs

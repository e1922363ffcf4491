-- Closed cases of the i-th of all messages, enums and extensions, which the checker computes: P1's sheet; a message that holds another, a
-- field and an enum, in a file of no package; one past the last, and further; the empty sheet.
-- Assumes nothing.
use Rattle.std.specs.Prelude.{◌≡◌, refl, List, [], ◌∷◌, map, ℕ, Ok, Err}
use Rattle.octets.specs.Ascii.{ascii}
use Rattle.field.specs.Leaf.{span}
use Rattle.sheet.specs.Declaration.{shape}
use Rattle.sheet.proofs.Controls.{tree, p1, inside}
use Rattle.names.specs.Names.{Named, every_declared}
use Rattle.roster.specs.declared.Bearer.TheVariants.{Message, Enum, Extension}
use Rattle.roster.specs.inner.Nth.{borne, nth, name_or}

every : List ℕ → List Named
unfolding every_declared tree
every s = every_declared s

-- ---- P1: the extension p.x, then the message o.F
p1-bearers : map (nth (every p1)) (0 ∷ 1 ∷ 2 ∷ 5 ∷ [])
    ≡ Ok (borne (Extension (record { name = span 13 14; extendee = span 17 20; shape = shape 5 13 1 (span 0 0) })) 3)
    ∷ Ok (borne (Message (span 49 49)) 3) ∷ Err 0 ∷ Err 3 ∷ []
unfolding every
p1-bearers = refl

p1-names : map (name_or [] (every p1)) (0 ∷ 1 ∷ 2 ∷ []) ≡ ascii "p.x" ∷ ascii "o.F" ∷ [] ∷ []
unfolding every
p1-names = refl

-- ---- no package: M, M.N and the enum M.E; the field has no place in the list
inside-bearers : map (nth (every inside)) (0 ∷ 1 ∷ 2 ∷ 3 ∷ [])
    ≡ Ok (borne (Message (span 13 77)) 1) ∷ Ok (borne (Message (span 20 20)) 3) ∷ Ok (borne (Enum (span 49 77)) 3) ∷ Err 0 ∷ []
unfolding every
inside-bearers = refl

inside-names : map (name_or [] (every inside)) (0 ∷ 1 ∷ 2 ∷ []) ≡ ascii "M" ∷ ascii "M.N" ∷ ascii "M.E" ∷ []
unfolding every
inside-names = refl

-- ---- nothing
empty-bearers : map (nth (every [])) (0 ∷ 7 ∷ []) ≡ Err 0 ∷ Err 7 ∷ []
unfolding every
empty-bearers = refl

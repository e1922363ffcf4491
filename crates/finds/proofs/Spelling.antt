-- Full names as texts and as paths: what stands before the name of what a message holds that some names lead to, and the text of the whole.
--
--   front_of f ns == what stands in a full name before the name of what the message holds that the names ns lead to, f standing before ns
--
-- Assumes nothing.
use Rattle.std.specs.Prelude.{◌≡◌, refl, true, List, [], ◌∷◌, ◌++◌, ℕ}
use Rattle.basis.specs.Kit.{sym, ap, ◌∙◌}
use Rattle.basis.proofs.Never.{never}
use mathlib.Core.List.{append_assoc}
use Rattle.path.specs.Path.{Name, Path, dot, components, spell, all_ident, parent}
use Rattle.path.proofs.PathLaws.{spell-components, ident-first, ident-rest, ident-cons}
use Rattle.ident.specs.Ident.{is_ident}
use Rattle.names.specs.Names.{inside, file_front}

abbrev pub front_of : (front : List ℕ) (names : Path) → List ℕ
front_of f [] = f
front_of f (n ∷ ns) = front_of (inside (f ++ n)) ns

spell-more : (n : Name) (ns : Path) (m : Name) → spell (n ∷ (ns ++ m ∷ [])) ≡ n ++ dot ∷ spell (ns ++ m ∷ [])
unfolding spell
spell-more n [] m = refl
spell-more n (k ∷ ns) m = refl

-- a front, a name, a dot and a text
pub inside-front : (f n t : List ℕ) → inside (f ++ n) ++ t ≡ f ++ (n ++ dot ∷ t)
inside-front f n t = simp append_assoc

pub front-spell : (f : List ℕ) (ns : Path) (n : Name) → front_of f ns ++ n ≡ f ++ spell (ns ++ n ∷ [])
unfolding spell
front-spell f [] n = refl
front-spell f (m ∷ ns) n = front-spell (inside (f ++ m)) ns n ∙ inside-front f m (spell (ns ++ n ∷ [])) ∙ rw (spell-more m ns n)

spell-two : (m : Name) (ms : Path) (n : Name) (ns : Path) → spell (m ∷ ms) ++ dot ∷ spell (n ∷ ns) ≡ spell (m ∷ (ms ++ n ∷ ns))
unfolding spell
spell-two m [] n ns = refl
spell-two m (k ∷ ms) n ns = append_assoc m (dot ∷ spell (k ∷ ms)) (dot ∷ spell (n ∷ ns)) ∙ rw (spell-two k ms n ns)

spell-inside : (p : Path) (t : List ℕ) (n : Name) (ns : Path) → (p ≡ [] → ⊥) → spell p ≡ t
    → inside t ++ spell (n ∷ ns) ≡ spell (p ++ n ∷ ns)
spell-inside [] t n ns h e = absurd (h refl)
spell-inside (m ∷ ms) t n ns h e = append_assoc t (dot ∷ []) (spell (n ∷ ns)) ∙ rw (← e) (spell-two m ms n ns)

components-some : (c : ℕ) (cs : List ℕ) → components (c ∷ cs) ≡ [] → ⊥
unfolding spell
components-some c cs e = let q = sym (spell-components (c ∷ cs)) ∙ ap spell e in never cc

-- the package, and the names behind it
pub package-spell : (t : List ℕ) (n : Name) (ns : Path) → file_front t ++ spell (n ∷ ns) ≡ spell (components t ++ n ∷ ns)
unfolding components
package-spell [] n ns = refl
package-spell (c ∷ cs) n ns = spell-inside (components (c ∷ cs)) (c ∷ cs) n ns (components-some c cs) (spell-components (c ∷ cs))

snoc-some : (P : Path → Type 0) (ns : Path) (n : Name) → ((m : Name) (ms : Path) → P (m ∷ ms)) → P (ns ++ n ∷ [])
snoc-some P [] n k = k n []
snoc-some P (m ∷ ns) n k = k m (ns ++ n ∷ [])

-- a whole full name
pub full-spell : (t : List ℕ) (ns : Path) (n : Name) → front_of (file_front t) ns ++ n ≡ spell (components t ++ (ns ++ n ∷ []))
full-spell t ns n =
    front-spell (file_front t) ns n ∙ snoc-some (λ p. file_front t ++ spell p ≡ spell (components t ++ p)) ns n (package-spell t)

-- ---- identifiers
pub ident-one : (n : Name) → is_ident n ≡ true → all_ident (n ∷ []) ≡ true
unfolding all_ident
ident-one n h = ident-cons n [] h refl

pub parent-idents : (n : Name) (ns : Path) → all_ident (n ∷ ns) ≡ true → all_ident (parent (n ∷ ns)) ≡ true
unfolding parent all_ident
parent-idents n [] h = refl
parent-idents n (m ∷ ns) h = ident-cons n (parent (m ∷ ns)) (ident-first n (m ∷ ns) h) (parent-idents m ns (ident-rest n (m ∷ ns) h))

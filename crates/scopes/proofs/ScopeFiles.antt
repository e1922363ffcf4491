-- The scopes that files give, of one package: which file gives which, and that the files stand in their order.
-- Assumes nothing.
use Rattle.std.specs.Prelude.{◌≡◌, refl, Bool, true, false, List, [], ◌∷◌, ℕ, zero, suc, ◌+◌, ◌<◌, Option, None, Some}
use Rattle.basis.specs.Kit.{sym, ap, ◌∙◌}
use Rattle.basis.proofs.Kit.{arith}
use lib.ListN.{get_elem?}
use mathlib.Core.Option as option
use Rattle.basis.proofs.Never.{never}
use Rattle.octets.specs.Octets.{same_bytes}
use Rattle.octets.proofs.SameBytes.{same_refl, same-sound}
use Rattle.field.specs.Leaf.{is_text}
use Rattle.path.specs.Path.{Name, Path, components, spell, all_ident}
use Rattle.path.proofs.PathLaws.{spell-components, components-spell}
use Rattle.sheet.specs.Tree.{File}
use Rattle.sheet.specs.Members.{messages_of}
use Rattle.basis.specs.First.{only_if, first}
use Rattle.scope.specs.Scope.{Scope, file_scope, message_scope, down}
use Rattle.scopes.specs.Scopes.{follow, scope_in, scopes_in}
use Rattle.basis.specs.Among.{Among, Ordered}
use Rattle.basis.proofs.AmongLaws.{among-nil, among-onto-first, among-onto, among-onto-cases, ordered-onto}
use Rattle.basis.proofs.AmongFirsts.{given-some}

-- ---- texts and paths
pub same-components : (t : List ℕ) (p : Path) → all_ident p ≡ true → same_bytes (spell p) t ≡ true → components t ≡ p
same-components t p h e = ap components (sym (same-sound (spell p) t e)) ∙ components-spell p h

pub components-same : (t : List ℕ) (p : Path) → components t ≡ p → same_bytes (spell p) t ≡ true
components-same t p e = rw (← e, spell-components t) (same_refl t)

-- ---- the scope that a file gives
pub only-some : {A : Type 0} (b : Bool) (o : Option A) (x : A) → only_if b o None ≡ Some x → (b ≡ true) × (o ≡ Some x)
only-some true o x e = (refl, e)
only-some false o x e = never cc

module _ (s : List ℕ) where
  -- a message is in the file of the scope that it stands in
  pub down-file : (n : Name) (c d : Scope) → down s n c ≡ Some d → d.place.file ≡ c.place.file
  down-file n c d e =
      let r = given-some (first (λ m. is_text s n m.name) (messages_of c.items)) (λ m. Some (message_scope c m)) d e in
      let q : message_scope c r.0 ≡ d = cc in
      ap (λ (x : Scope). x.place.file) (sym q)

  follow-file : (ns : Path) (c d : Scope) → follow s ns c ≡ Some d → d.place.file ≡ c.place.file
  follow-file [] c d e = let q : c ≡ d = cc in ap (λ (x : Scope). x.place.file) (sym q)
  follow-file (n ∷ ns) c d e =
      let r = given-some (down s n c) (follow s ns) d e in
      follow-file ns r.0 d r.2 ∙ down-file n c r.0 r.1

  module _ (t : List ℕ) (ns : Path) where
    -- the file that a scope comes from, of those of which the first is the i-th
    pub record Comes (i : ℕ) (fs : List File) (c : Scope) : Type 0 where
      pub k : ℕ
      pub at : ℕ
      pub counted : i + k ≡ at
      pub file : File
      pub is : get_elem? fs k ≡ option.some file
      pub gives : scope_in s t ns at file ≡ Some c

    pub comes : (i : ℕ) (fs : List File) (c : Scope) → Among c (scopes_in s t ns i fs) → Comes i fs c
    comes i [] c m = among-nil m
    comes i (f ∷ fs) c m = among-onto-cases (scope_in s t ns i f) now (λ j. later (comes (i + 1) fs c j)) m
      where
        now : scope_in s t ns i f ≡ Some c → Comes i (f ∷ fs) c
        now e = record { k = 0; at = i; counted = omega arith; file = f; is = refl; gives = e }

        later : Comes (i + 1) fs c → Comes i (f ∷ fs) c
        later r = record { k = suc r.k; at = r.at; counted = omega arith; file = r.file; is = r.is; gives = r.gives }

    pub goes : (i : ℕ) (fs : List File) (c : Scope) → Comes i fs c → Among c (scopes_in s t ns i fs)
    goes i fs c r = go i fs r.k r.counted r.is
      where
        go : (i : ℕ) (fs : List File) (k : ℕ) → i + k ≡ r.at → get_elem? fs k ≡ option.some r.file → Among c (scopes_in s t ns i fs)
        go i [] k n e = never cc
        go i (f ∷ fs) zero n e =
            let q : f ≡ r.file = cc in
            let p : i ≡ r.at = omega arith in
            among-onto-first (scope_in s t ns i f) (scopes_in s t ns (i + 1) fs) (rw (q, p) r.gives)
        go i (f ∷ fs) (suc k) n e = among-onto (scope_in s t ns i f) (go (i + 1) fs k (omega arith) e)

    module _ (i : ℕ) (f : File) (c : Scope) (e : scope_in s t ns i f ≡ Some c) where
      pub follows : (is_text s t f.package_name ≡ true) × (follow s ns (file_scope i f) ≡ Some c)
      follows = only-some (is_text s t f.package_name) (follow s ns (file_scope i f)) c e

      pub index : c.place.file ≡ i
      index = follow-file ns (file_scope i f) c follows.1

    -- the files come in their order
    pub files-rise : (i : ℕ) (fs : List File) → Ordered (λ c d. c.place.file < d.place.file) (scopes_in s t ns i fs)
    files-rise i [] = Ordered.none
    files-rise i (f ∷ fs) = ordered-onto (scope_in s t ns i f) rises (files-rise (i + 1) fs)
      where
        rises : (c d : Scope) → scope_in s t ns i f ≡ Some c → Among d (scopes_in s t ns (i + 1) fs) → c.place.file < d.place.file
        rises c d e m =
            let r = comes (i + 1) fs d m in
            omega (arith, index i f c e, index r.at r.file d r.gives)

-- Where that lies which a look-up by full name finds: every place is one of the sheet, every scope is what stands at its place, and the
-- index of a file is at most the sheet's length. They are for whoever reads the sheet at what was found: the functions of a scope ask for
-- `InSheet`.
--
--   OneScope s cs p <-> the only one of the scopes cs is the one at p, a place of s
--    OneEnum s es p <-> the only one of the enums es has its values at p, a place of s
--
-- Assumes nothing.
use Rattle.std.specs.Prelude.{◌≡◌, refl, List, [], ◌∷◌, ℕ, ◌≤◌, length, Some, Ok, Result}
use Rattle.basis.specs.Kit.{sym, ap, ◌∙◌}
use Rattle.basis.proofs.Never.{never}
use Rattle.field.specs.declared.Span.{Span}
use Rattle.field.specs.Walk.{walk}
use Rattle.path.specs.Path.{Name, Path, parent, last}
use Rattle.sheet.specs.Tree.{values_in}
use Rattle.sheet.specs.Members.{Enumeration}
use Rattle.scope.specs.declared.lookup.LookupScope.{LookupScope}
use Rattle.scope.specs.Scope.{Scope, holding, enum_named}
use Rattle.scope.specs.inner.Answers.{InSheet}
use Rattle.fullname.specs.FullName.{message_of, messages_at, enums_at, looked_up, looked_up_enum}
use Rattle.basis.proofs.FirstLaws.{Every, none_of, one_of, every-collect}
use Rattle.scope.proofs.Held.{HeldEnum, enum-held, enum-lies-ordered, enum-lies-within}
use Rattle.scopes.proofs.ScopeFiles.{only-some}
use Rattle.scopes.proofs.Standing.{Standing, scopes-stand}
use Rattle.reply.specs.declared.Refusal.{Refusal}

-- ---- a message by full name
pub record OneScope (s : List ℕ) (cs : List Scope) (p : LookupScope) : Type 0 where
  pub is : cs ≡ holding s p ∷ []
  pub lies : InSheet s p
  pub counted : p.file ≤ length s

one-scope : (s : List ℕ) (cs : List Scope) → Every (Standing s) cs → (p : LookupScope) → Ok p ≡ looked_up cs → OneScope s cs p
one-scope s [] none_of p q = never cc
one-scope s (c ∷ d ∷ cs) k p q = never cc
one-scope s (c ∷ []) (one_of k t) p q =
    let u : p ≡ c.place = cc in
    rw u record { is = ap (λ (x : Scope). x ∷ []) k.held; lies = k.lies; counted = k.counted }

module _ (s : List ℕ) (p : Path) where
  messages-stand : Every (Standing s) (messages_at s p)
  unfolding messages_at
  messages-stand =
      every-collect (Standing s) message_of (Standing s)
      (λ c k x q. let u : Some c ≡ Some x = (only-some c.place.message (Some c) x q).1 in let v : x ≡ c = cc in rw v k)
      (scopes-stand s p)

  module _ (r : Result LookupScope Refusal) (q : r ≡ looked_up (messages_at s p)) (x : LookupScope) (g : r ≡ Ok x) where
    pub looked-up : OneScope s (messages_at s p) x
    looked-up = one-scope s (messages_at s p) messages-stand x (sym g ∙ q)

    pub looked-up-is : messages_at s p ≡ holding s x ∷ []
    looked-up-is = looked-up.is

    pub looked-up-lies : InSheet s x
    looked-up-lies = looked-up.lies

    pub looked-up-counted : x.file ≤ length s
    looked-up-counted = looked-up.counted

pub ruleset looked_up_laws = (looked-up-is, looked-up-lies, looked-up-counted)

-- ---- an enum by full name
pub record OneEnum (s : List ℕ) (es : List Enumeration) (p : Span) : Type 0 where
  pub next : Enumeration
  pub is : es ≡ next ∷ []
  pub body : p ≡ next.body
  pub values : next.values ≡ values_in s (walk s p.from p.to)
  pub ordered : p.from ≤ p.to
  pub within : p.to ≤ length s

one-enum : (s : List ℕ) (es : List Enumeration) → Every (HeldEnum s (length s)) es → (p : Span) → Ok p ≡ looked_up_enum es
    → OneEnum s es p
one-enum s [] none_of p q = never cc
one-enum s (x ∷ y ∷ es) k p q = never cc
one-enum s (x ∷ []) (one_of k t) p q =
    let u : p ≡ x.body = cc in
    rw u record { next = x; is = refl; body = refl; values = k.values; ordered = k.ordered; within = k.within }

module _ (s : List ℕ) where
  enum-named-held : (n : Name) (c : Scope) → Standing s c → (x : Enumeration) → enum_named s n c ≡ Some x → HeldEnum s (length s) x
  enum-named-held n c k x q =
      let q' : enum_named s n (holding s c.place) ≡ Some x = ap (enum_named s n) (sym k.held) ∙ q in
      record {
        values = enum-held s n c.place x q';
        ordered = enum-lies-ordered s n c.place x q';
        within = enum-lies-within s n c.place x q' k.lies;
      }

  enums-lie : (p : Path) → Every (HeldEnum s (length s)) (enums_at s p)
  unfolding enums_at
  enums-lie [] = none_of
  enums-lie (n ∷ ns) =
      every-collect (Standing s) (enum_named s (last (n ∷ ns))) (HeldEnum s (length s)) (enum-named-held (last (n ∷ ns)))
      (scopes-stand s (parent (n ∷ ns)))

module _ (s : List ℕ) (p : Path) (r : Result Span Refusal) (q : r ≡ looked_up_enum (enums_at s p)) (x : Span) (g : r ≡ Ok x) where
  pub looked-up-enum : OneEnum s (enums_at s p) x
  looked-up-enum = one-enum s (enums_at s p) (enums-lie s p) x (sym g ∙ q)

  pub looked-up-enum-ordered : x.from ≤ x.to
  looked-up-enum-ordered = looked-up-enum.ordered

  pub looked-up-enum-within : x.to ≤ length s
  looked-up-enum-within = looked-up-enum.within

pub ruleset looked_up_enum_laws = (looked-up-enum-ordered, looked-up-enum-within)

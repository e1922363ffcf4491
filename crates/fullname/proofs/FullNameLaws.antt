-- The laws of the look-ups by full name: the ways through `next_message`, `next_enum`, `find_message_by_abs_name`, `enum_in`,
-- `only_enum` and `find_enum_by_abs_name`.
-- Assumes nothing.
use Rattle.std.specs.Prelude.{◌≡◌, refl, Bool, true, false, List, [], ◌∷◌, ℕ, suc, ◌-◌, ◌<◌, eqb, length, take, Option, None, Some, Err, Ok, Result, is_some}
use Rattle.basis.specs.Kit.{sym, ap, ◌∙◌}
use Rattle.basis.proofs.Kit.{arith}
use Rattle.basis.proofs.Never.{never}
use Rattle.octets.specs.Octets.{part}
use Rattle.reply.specs.declared.Refusal.TheVariants.{MessageNotFound, MessageFoundMoreThanOnce}
use Rattle.path.specs.Path.{Name, Path, components, parent, last}
use Rattle.path.specs.inner.Last.{LastStarts}
use Rattle.path.proofs.PathLaws.{components-nil}
use Rattle.sheet.specs.Members.{Enumeration}
use Rattle.scope.specs.declared.lookup.LookupScope.{LookupScope}
use Rattle.cursor.specs.declared.Cursor.{Cursor}
use Rattle.basis.specs.First.{only_if, told, onto, collect}
use Rattle.scope.specs.Scope.{Scope, holding, enum_named}
use Rattle.scope.specs.inner.Answers.{bodied}
use Rattle.scopes.specs.Scopes.{scopes}
use Rattle.cursor.specs.inner.Cursor.{ahead, start_of, Nexts}
use Rattle.fullname.specs.FullName.{messages_at, enums_at, looked_up, looked_up_enum}
use Rattle.fullname.specs.inner.Ahead.{kept, passing, is_message, declares_enum}
use Rattle.scope.proofs.Held.{enum_at, enum-not}
use Rattle.cursor.proofs.CursorLaws.{nexts-no-more, nexts-at, nexts-stands, nexts-lies}
use Rattle.cursor.proofs.Left.{Left, left_end, left-some, left-none, left_laws}
use Rattle.cursor.proofs.StartLaws.{components-some, last-text, start-ahead, start-stands, start-before, start-before-stands}
use Rattle.cursor.specs.declared.Next.{Next}
use Rattle.field.specs.declared.Span.{Span}
use Rattle.reply.specs.declared.Refusal.{Refusal}

-- ---- next_message and next_enum: the next of the scopes to come that passes a test
module _ (good : Scope → Bool) (s t : List ℕ) (c₀ c : Cursor) (k : Left (passing good s t c₀) (collect (kept good)) s t c)
    (r : Option Next) (q : Nexts (ahead s t) s t c r) where
  pub passing-end : r ≡ None → Nexts (passing good s t) s t c₀ None
  passing-end g = nexts-no-more (passing good s t) s t c₀ (left_end (passing good s t c₀) (collect (kept good)) s t c k r q g)

  module _ (n : Next) (g : r ≡ Some n) where
    pub passing-found : good (holding s n.scope) ≡ true → Nexts (passing good s t) s t c₀ (Some n)
    passing-found h =
        nexts-at (passing good s t) s t c₀ n
        (record {
          lies = (q.some n g).lies;
          stands = (q.some n g).stands;
          is = left-some (kept good) (passing good s t c₀) s t c k r q n g (holding s n.scope) (rw h);
        })

    pub passing-next : good (holding s n.scope) ≡ false → Left (passing good s t c₀) (collect (kept good)) s t n.rest
    passing-next h = left-none (kept good) (passing good s t c₀) s t c k r q n g (rw h)

-- a scope declares an enum of the name where `enum_named` gives one
module _ (s : List ℕ) (n : Name) (p : LookupScope) (l : Option Span) (x : l ≡ bodied (enum_named s n (holding s p))) where
  pub enum-declared : (q : Span) → l ≡ Some q → declares_enum s n (holding s p) ≡ true
  enum-declared q h = rw (enum_at s n p l x q h).is

  pub enum-undeclared : l ≡ None → declares_enum s n (holding s p) ≡ false
  enum-undeclared h = rw (enum-not s n p l x h)

pub ruleset next_message_laws = (left_laws, passing-end, passing-found, passing-next)

pub ruleset next_enum_laws = (left_laws, passing-end, passing-found, passing-next, enum-declared, enum-undeclared)

-- ---- whether there is a second one
absent : {A : Type 0} (o : Option A) → is_some o ≡ false → o ≡ None
absent None e = refl
absent (Some x) e = never cc

present : {A : Type 0} (o : Option A) → is_some o ≡ true → (x : A) × (o ≡ Some x)
present None e = never cc
present (Some x) e = (x, refl)

-- ---- find_message_by_abs_name
module _ (s t : List ℕ) (c : Cursor) (e : c ≡ start_of (eqb (length t) 0)) (r : Option Next) (q : Nexts (passing is_message s t) s t c r) where
  messages-all : messages_at s (components t) ≡ passing is_message s t c
  unfolding messages_at
  messages-all = rw (start-ahead s t c e)

  pub messages-none : r ≡ None → Err MessageNotFound ≡ looked_up (messages_at s (components t))
  messages-none g = rw (messages-all, q.none g)

  module _ (n : Next) (g : r ≡ Some n) (r' : Option Next) (q' : Nexts (passing is_message s t) s t n.rest r')
      (b : Bool) (x : b ≡ is_some r') where
    pub messages-one : b ≡ false → Ok n.scope ≡ looked_up (messages_at s (components t))
    messages-one y = rw (messages-all, (q.some n g).is, q'.none (absent r' (sym x ∙ y)))

    pub messages-more : b ≡ true → Err MessageFoundMoreThanOnce ≡ looked_up (messages_at s (components t))
    messages-more y =
        let m = present r' (sym x ∙ y) in
        rw (messages-all, (q.some n g).is, (q'.some m.0 m.1).is)

pub ruleset message_by_name_laws = (start-stands, nexts-stands, messages-none, messages-one, messages-more)

-- ---- enum_in
module _ (s : List ℕ) (n : Name) (p : LookupScope) (l : Option Span) (x : l ≡ bodied (enum_named s n (holding s p))) where
  pub enum-in-none : l ≡ None → Err MessageNotFound ≡ looked_up_enum (collect (enum_named s n) (holding s p ∷ []))
  enum-in-none h = rw (enum-not s n p l x h)

  pub enum-in-some : (q : Span) → l ≡ Some q → Ok q ≡ looked_up_enum (collect (enum_named s n) (holding s p ∷ []))
  enum-in-some q h = let f = enum_at s n p l x q h in ap Ok f.body ∙ rw f.is

pub ruleset enum_in_laws = (enum-in-none, enum-in-some)

-- ---- only_enum
-- what f makes of a list comes of those elements of which it makes something, one of each
module _ {B : Type 0} (f : Scope → Option B) where
  abbrev making : Scope → Bool
  making c = told false (λ b. true) (f c)

  collect-kept : (cs : List Scope) → collect f (collect (kept making) cs) ≡ collect f cs
  collect-kept [] = refl
  collect-kept (c ∷ cs) = go (f c) refl (collect-kept cs)
    where
      go : (o : Option B) → f c ≡ o → collect f (collect (kept making) cs) ≡ collect f cs
          → collect f (onto (only_if (told false (λ b. true) o) (Some c) None) (collect (kept making) cs)) ≡ onto o (collect f cs)
      go None e ih = ih
      go (Some b) e ih = rw (e, ih)

  collect-length : (cs : List Scope) → length (collect f cs) ≡ length (collect (kept making) cs)
  collect-length [] = refl
  collect-length (c ∷ cs) = go (f c) (collect-length cs)
    where
      go : (o : Option B) → length (collect f cs) ≡ length (collect (kept making) cs)
          → length (onto o (collect f cs)) ≡ length (onto (only_if (told false (λ b. true) o) (Some c) None) (collect (kept making) cs))
      go None ih = ih
      go (Some b) ih = ap suc ih

enums-more-than-one : (es : List Enumeration) → 1 < length es → Err MessageFoundMoreThanOnce ≡ looked_up_enum es
enums-more-than-one [] h = absurd (omega arith)
enums-more-than-one (e ∷ []) h = absurd (omega arith)
enums-more-than-one (e ∷ f ∷ es) h = refl

module _ (s t : List ℕ) (n : Name) (c : Cursor) (r : Option Next) (q : Nexts (passing (declares_enum s n) s t) s t c r) where
  enums-kept : collect (enum_named s n) (ahead s t c) ≡ collect (enum_named s n) (passing (declares_enum s n) s t c)
  enums-kept = sym (collect-kept (enum_named s n) (ahead s t c))

  pub enums-none : r ≡ None → Err MessageNotFound ≡ looked_up_enum (collect (enum_named s n) (ahead s t c))
  enums-none g = rw (enums-kept, q.none g)

  module _ (m : Next) (g : r ≡ Some m) (r' : Option Next) (q' : Nexts (passing (declares_enum s n) s t) s t m.rest r')
      (b : Bool) (x : b ≡ is_some r') where
    pub enums-one : b ≡ false → (v : Result Span Refusal) → v ≡ looked_up_enum (collect (enum_named s n) (holding s m.scope ∷ []))
        → v ≡ looked_up_enum (collect (enum_named s n) (ahead s t c))
    enums-one y v z = z ∙ rw (enums-kept, (q.some m g).is, q'.none (absent r' (sym x ∙ y)))

    pub enums-more : b ≡ true → Err MessageFoundMoreThanOnce ≡ looked_up_enum (collect (enum_named s n) (ahead s t c))
    enums-more y =
        let m' = present r' (sym x ∙ y) in
        enums-more-than-one (collect (enum_named s n) (ahead s t c))
        (rw (collect-length (enum_named s n) (ahead s t c), (q.some m g).is, (q'.some m'.0 m'.1).is) (omega arith))

pub ruleset only_enum_laws = (nexts-stands, nexts-lies, enums-none, enums-one, enums-more)

-- ---- find_enum_by_abs_name
enums-some : (s : List ℕ) (p : Path) → (p ≡ [] → ⊥) → enums_at s p ≡ collect (enum_named s (last p)) (scopes s (parent p))
unfolding enums_at
enums-some s [] h = absurd (h refl)
enums-some s (n ∷ p) h = refl

module _ (s t : List ℕ) where
  pub enums-empty : length t ≡ 0 → Err MessageNotFound ≡ looked_up_enum (enums_at s (components t))
  unfolding enums_at
  enums-empty h = rw (components-nil t h)

  pub enums-found : (length t ≡ 0 → ⊥) → (r : ℕ) → LastStarts t r → (b : List ℕ) → b ≡ take (r - 1) t
      → (c : Cursor) → c ≡ start_of (eqb r 0)
      → (v : Result Span Refusal) → v ≡ looked_up_enum (collect (enum_named s (part t r (length t))) (ahead s b c))
      → v ≡ looked_up_enum (enums_at s (components t))
  enums-found h r k b q c e v x =
      x ∙ rw (start-before s t r k b q c e, last-text t r k, enums-some s (components t) (components-some t h))

pub ruleset enum_by_name_laws = (start-before-stands, enums-empty, enums-found)

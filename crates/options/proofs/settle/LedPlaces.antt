-- Where that lies to which a part leads, for the step that goes on there: what it asks for holds, and what is left falls.
-- Assumes nothing.
use Rattle.std.specs.Prelude.{◌≡◌, List, ℕ, ◌+◌, ◌-◌, ◌*◌, ◌≤◌, ◌<◌, length, Ok, Result}
use Rattle.basis.proofs.Kit.{arith, Fits}
use mir.Syntax.{w32}
use Rattle.sheet.specs.declared.declaration.Shape.{Shape}
use Rattle.scope.specs.declared.lookup.LookupScope.{LookupScope}
use Rattle.records.specs.inner.Emits.{Roomy}
use Rattle.steps.specs.declared.Reach.{Reach}
use Rattle.steps.specs.declared.Reach.TheVariants.{Constant, Inside}
use Rattle.steps.specs.inner.Reached.{Led}
use Rattle.options.specs.inner.Written.{Steppable}
use Rattle.reply.specs.declared.Refusal.{Refusal}

module _ (s r : List ℕ) (from to : ℕ) (v : Result Reach Refusal) (k : Led s r from to v) where
  module _ (h : Shape) (x : ℕ) (g : v ≡ Ok (Constant h x)) where
    pub constant-path-ordered : h.path.from ≤ h.path.to
    constant-path-ordered = (k.constant h x g).path.0

    pub constant-path-within : h.path.to ≤ length s
    constant-path-within = (k.constant h x g).path.1

    pub constant-within : x ≤ to
    constant-within = (k.constant h x g).within

    pub constant-room : (at : ℕ) → Roomy at (to - from) r → Roomy at (to - x) r
    constant-room at o = record { room = omega (arith, o.room, (k.constant h x g).further, (k.constant h x g).within) }

  module _ (h : Shape) (p : LookupScope) (x : ℕ) (g : v ≡ Ok (Inside h p x)) where
    pub entered-path-ordered : h.path.from ≤ h.path.to
    entered-path-ordered = (k.inside h p x g).behind.path.0

    pub entered-path-within : h.path.to ≤ length s
    entered-path-within = (k.inside h p x g).behind.path.1

    pub entered-steppable : (scope : List ℕ) (c : LookupScope) (i : ℕ) → Steppable s r scope c from to i → Steppable s r scope p x to (i + 1)
    entered-steppable scope c i o = record {
      ordered = (k.inside h p x g).behind.within;
      within = o.within;
      parts = (k.inside h p x g).parts;
      path = o.path;
      place = (k.inside h p x g).place;
      few = omega (arith, o.few, (k.inside h p x g).behind.further, (k.inside h p x g).behind.within);
    }

    pub entered-room : (at : ℕ) → Roomy at (to - from) r → Roomy at (3 + (to - x)) r
    entered-room at o =
        record { room = omega (arith, o.room, (k.inside h p x g).behind.further, (k.inside h p x g).behind.within) }

    pub entered-falls : (n : ℕ) → 2 * (to - from) ≡ n → 2 * (to - x) + 1 < n
    entered-falls n o = omega (arith, (k.inside h p x g).behind.further, (k.inside h p x g).behind.within)

module _ (s r scope : List ℕ) (c : LookupScope) (from to i : ℕ) (o : Steppable s r scope c from to i) where
  pub steppable-ordered : from ≤ to
  steppable-ordered = o.ordered

  pub steppable-within : to ≤ length r
  steppable-within = o.within

  pub part-fits : Fits w32 (i + 1)
  part-fits = record { fits = omega (arith, o.few) }

pub ruleset led_places = (
  constant-path-ordered,
  constant-path-within,
  constant-within,
  constant-room,
  entered-path-ordered,
  entered-path-within,
  entered-steppable,
  entered-room,
  steppable-ordered,
  steppable-within,
  part-fits,
  entered-falls,
)

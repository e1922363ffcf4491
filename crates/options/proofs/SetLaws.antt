-- How many bytes the record of the builtin has that an option sets.
-- Assumes nothing.
use Rattle.std.specs.Prelude.{◌≡◌, refl, List, ℕ, ◌-◌, ◌≤◌, length, Option, None, Some, Ok, Err, Result}
use Rattle.basis.proofs.Kit.{arith}
use Rattle.basis.specs.First.{told}
use Rattle.limits.specs.Figures.{most_constants}
use Rattle.field.specs.Field.{field_at, field}
use Rattle.field.specs.Leaf.{text}
use Rattle.field.specs.Walk.{walk}
use Rattle.field.proofs.FieldLaws.{field-bounds}
use Rattle.request.specs.declared.name.Part.{Part}
use Rattle.request.specs.Name.{parts_in, after_parts}
use Rattle.request.specs.Tree.{Constants, none as no_constant, unnamed, constant_in}
use Rattle.request.specs.Request.{constant_of_field, option_of}
use Rattle.request.proofs.RequestLaws.{after-from}
use Rattle.optionform.specs.inner.Parts.{OptionParts}
use Rattle.records.specs.Records.{encode}
use Rattle.records.specs.Made.{Made, made, wrong}
use Rattle.records.specs.inner.Emits.{bytes_most}
use Rattle.lookups.specs.Lookups.{Lookups}
use Rattle.faults.specs.declared.Fault.{Fault}
use Rattle.options.specs.Named.{option_from}
use Rattle.builtins.specs.declared.Built.{Built}
use Rattle.builtins.specs.Builtins.{builtin_of, built_recs}
use Rattle.builtins.proofs.BuiltLaws.{built-few}
use Rattle.options.specs.declared.settle.Start.{Start}
use Rattle.options.specs.Settle.{Settled, settled_built, settled, builtin_part, settle}
use Rattle.options.specs.inner.Settling.{message_of, settled_at, set_recs}
use Rattle.reply.specs.declared.Refusal.{Refusal}

set-built : (r : List ℕ) (b : Result (Option Built) Refusal) → set_recs (settled_built r b) ≡ built_recs r b
set-built r (Ok None) = refl
set-built r (Ok (Some x)) = refl
set-built r (Err w) = refl

-- the steps set no builtin
set-stepped : (m : Made Fault) (k : ℕ) → length (encode (set_recs (settled m))) ≤ k
unfolding encode
set-stepped (made x) k = omega arith
set-stepped (wrong f) k = omega arith

module _ (L : Lookups) (s r : List ℕ) (h : Start) (a e : ℕ) (o : a ≤ e) (k : OptionParts r a e) where
  -- the option's constant, and what the builtin of a part comes to by it
  constant : Constants
  constant = constant_of_field r (field_at r (after_parts a (walk r a e)) e)

  abbrev built_by : Constants → Part → Settled
  built_by c p = settled_built r (builtin_of L s r (message_of r h) (text r p.name) c)

  part-few : (p : Part) → length (encode (set_recs (built_by constant p))) ≤ bytes_most (e - a)
  unfolding constant
  part-few p =
      let x = after_parts a (walk r a e) in
      let f = k.follows in
      let b = field-bounds r x e (field_at r x e) refl (field f.tag f.from f.to) f.whole in
      let c = constant_in most_constants r unnamed f.tag f.from f.to no_constant in
      let v = builtin_of L s r (message_of r h) (text r p.name) c in
      let few = built-few L s r (message_of r h) (text r p.name) f.tag f.from f.to v refl in
      rw (f.whole, set-built r v) (omega (arith, few, b.starts, b.ordered, b.inside, after-from r a e x refl o))

  pub set-few : length (encode (set_recs (settled_at L s r h a e))) ≤ bytes_most (e - a)
  unfolding settled_at settle option_of constant
  set-few = go (builtin_part (parts_in (walk r a e)))
    where
      steps : Made Fault
      steps = option_from L s r (text r h.scope) 0 (message_of r h) (parts_in (walk r a e)) constant

      go : (b : Option Part) → length (encode (set_recs (told (settled steps) (built_by constant) b))) ≤ bytes_most (e - a)
      go None = set-stepped steps (bytes_most (e - a))
      go (Some p) = part-few p

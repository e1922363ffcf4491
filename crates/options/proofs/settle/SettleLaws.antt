-- One option: the ways through `settled_built`, `settle_named`, `settle` and `put_set`, over any look-ups.
-- Assumes nothing.
use Rattle.std.specs.Prelude.{◌≡◌, refl, Bool, true, false, List, [], ◌∷◌, ℕ, ◌+◌, ◌-◌, ◌≤◌, length, Option, None, Some, Err, Ok, Result}
use Rattle.basis.specs.Kit.{sym, ap, ◌∙◌}
use Rattle.basis.specs.First.{only_if}
use Rattle.basis.proofs.Kit.{arith}
use mathlib.Core.Path.{subst}
use native.Mathlib.Nat.{add-zero}
use Rattle.basis.proofs.Never.{never}
use Rattle.limits.specs.Figures.{most_options}
use Rattle.octets.specs.inner.Laid.{Laid}
use Rattle.reply.specs.declared.Refusal.{Refusal}
use Rattle.field.specs.Leaf.{text}
use Rattle.field.specs.Walk.{walk}
use Rattle.request.specs.declared.name.Part.{Part}
use Rattle.request.specs.Name.{part_at, parts_in, after_parts}
use Rattle.request.specs.Request.{option_of}
use Rattle.request.proofs.PartLaws.{parts-nil, parts-cons, after-parts-here, after-parts-next, part-ordered, part-inside, part-within}
use Rattle.optionform.specs.inner.Parts.{LastConstant, OptionParts}
use Rattle.optionform.proofs.PartsLaws.{fine-part-next, fine-part-last}
use Rattle.records.specs.Records.{nil, encode}
use Rattle.records.specs.Made.{Made, made, wrong}
use Rattle.records.specs.inner.Emits.{Emits, Roomy}
use Rattle.records.proofs.EmitsLaws.{Tells, emits-next, emits-refused, emits-laid, refuses}
use Rattle.lookups.specs.Lookups.{Lookups}
use Rattle.faults.specs.declared.Fault.{Fault}
use Rattle.options.specs.inner.Written.{constant_at, stepped_of, option_made, Steppable}
use Rattle.options.proofs.settle.PutLaws.{stepped-tells}
use Rattle.builtins.specs.declared.Built.{Built}
use Rattle.builtins.specs.Builtins.{builtin_of, built_recs}
use Rattle.reply.specs.declared.Where.TheVariants as wheres
use Rattle.reply.specs.declared.Cause.{Cause}
use Rattle.options.specs.declared.settle.Start.{Start}
use Rattle.options.specs.declared.settle.Settling.{Settling}
use Rattle.options.specs.Settle.{settled_built, settled, builtin_part, settle}
use Rattle.faults.specs.Faults.{fault_at, cause_at}
use Rattle.options.specs.inner.Settling.{message_of, settled_at, parted, others_of, note_in, set_recs, settling, settling_of, Started, Settleable}

-- ---- settled_built
module _ (b : Result (Option Built) Refusal) (i at : ℕ) where
  pub built-skipped : b ≡ Ok None → Ok (settling 0 at) ≡ settling_of i (note_in (settled_built [] b)) at (others_of (settled_built [] b))
  unfolding settling_of encode
  built-skipped g = rw (g, add-zero at) refl

  pub built-sets : (x : Built) → b ≡ Ok (Some x)
      → Ok (settling (x.shape.number + 1) at) ≡ settling_of i (note_in (settled_built [] b)) at (others_of (settled_built [] b))
  unfolding settling_of encode
  built-sets x g = rw (g, add-zero at) refl

  pub built-wrong : (w : Refusal) → b ≡ Err w → (y : Cause) → y ≡ cause_at i (fault_at 0 w)
      → Err y ≡ settling_of i (note_in (settled_built [] b)) at (others_of (settled_built [] b))
  unfolding settling_of
  built-wrong w g y e = rw (g, e) refl

pub ruleset settled_built_laws = (built-skipped, built-sets, built-wrong)

-- ---- settle_named
fault-inv : (i : ℕ) (f g : Fault) → cause_at i f ≡ cause_at i g → f ≡ g
fault-inv i f g s =
    let p : wheres.Option i f.part ≡ wheres.Option i g.part = ap (λ (x : Cause). x.place) s in
    let n : f.part ≡ g.part = cc in
    let w : f.why ≡ g.why = ap (λ (x : Cause). x.why) s in
    ap (λ (x : ℕ). record { part = x; why = f.why }) n ∙ ap (λ (x : Refusal). record { part = g.part; why = x }) w

pub settling-tells : (i n : ℕ) → Tells (settling_of i n) (λ p. Ok (settling n p)) (λ f. Err (cause_at i f))
unfolding settling_of
settling-tells i n = record {
  makes = λ at x. refl;
  stops = λ at w. refl;
  next-inv = λ m k e. let s : settling n m ≡ settling n k = cc in ap (λ (p : Settling). p.next) s;
  stop-inv = λ v w e. let s : cause_at i v ≡ cause_at i w = cc in fault-inv i v w s;
  apart = λ k w e. never cc;
}

module _ (m : Made Fault) (k : ℕ) (l : List ℕ) (at : ℕ) (l' : List ℕ) (y : Result ℕ Fault) (u : Emits stepped_of m k l at l' y) (i : ℕ) where
  pub named-next : (n : ℕ) → y ≡ Ok n → Emits (settling_of i 0) m k l at l' (Ok (settling 0 n))
  named-next n g =
      let x = emits-next stepped-tells m n u g in
      emits-laid (settling-tells i 0) x.recs n x.laid x.is x.few refl

  pub named-refused : (f : Fault) → y ≡ Err f → (z : Cause) → z ≡ cause_at i f → Emits (settling_of i 0) m k l at l' (Err z)
  named-refused f g z e = rw e (refuses (settling-tells i 0) f (emits-refused stepped-tells m f u g) refl)

module _ (s r : List ℕ) (h : Start) (option from to at : ℕ) (k : Settleable s r h option from to at) where
  pub start-scope-ordered : h.scope.from ≤ h.scope.to
  start-scope-ordered = k.started.scope.0

  pub start-scope-within : h.scope.to ≤ length r
  start-scope-within = k.started.scope.1

  pub start-type-ordered : h.options_type.from ≤ h.options_type.to
  start-type-ordered = k.started.type.0

  pub start-type-within : h.options_type.to ≤ length r
  start-type-within = k.started.type.1

  pub start-steppable : Steppable s r (text r h.scope) h.place from to 0
  start-steppable = record {
    ordered = k.ordered;
    within = k.within;
    parts = k.parts;
    path = k.started.path;
    place = k.started.place;
    few = omega (arith, k.started.short, k.within);
  }

  pub settleable-started : Started s r h
  settleable-started = k.started

  pub settleable-count : option ≤ most_options
  settleable-count = k.count

  pub settleable-ordered : from ≤ to
  settleable-ordered = k.ordered

  pub settleable-within : to ≤ length r
  settleable-within = k.within

  pub settleable-parts : OptionParts r from to
  settleable-parts = k.parts

  pub settleable-room : Roomy at (to - from) r
  settleable-room = k.room

pub ruleset settleable_laws = (
  settleable-started,
  settleable-count,
  settleable-ordered,
  settleable-within,
  settleable-parts,
  settleable-room,
)

pub ruleset start_laws = (start-scope-ordered, start-scope-within, start-type-ordered, start-type-within, start-steppable, settleable_laws)

pub ruleset settle_named_laws = (named-next, named-refused, start_laws)

-- ---- what `builtin_part` says of the option: a part alone, or another name
pub record Alone (r : List ℕ) (from to : ℕ) (p : Part) : Type 0 where
  pub is : part_at r from to ≡ Some p
  pub last : part_at r p.name.to to ≡ None

one-whole : (o p : Part) → parted (builtin_part (o ∷ [])) ≡ Some p → o ≡ p
one-whole o p = go o.extension
  where
    go : (b : Bool) → parted (only_if b None (Some o)) ≡ Some p → o ≡ p
    go true e = never cc
    go false e = cc

module _ (r : List ℕ) (from to : ℕ) (p : Part) where
  alone-after : (o : Part) → part_at r from to ≡ Some o → (u : Option Part) → part_at r o.name.to to ≡ u
      → parted (builtin_part (o ∷ parts_in (walk r o.name.to to))) ≡ Some p → Alone r from to p
  alone-after o e None z t =
      let c = ap (λ (ps : List Part). parted (builtin_part (o ∷ ps))) (parts-nil r o.name.to to None (sym z) refl) in
      subst (Alone r from to) (one-whole o p (sym c ∙ t)) (record { is = e; last = z })
  alone-after o e (Some x) z t =
      let c = ap (λ (ps : List Part). parted (builtin_part (o ∷ ps))) (parts-cons r o.name.to to (Some x) (sym z) x refl) in
      let y : None ≡ Some p = sym c ∙ t in
      never cc

  alone-from : (u : Option Part) → part_at r from to ≡ u → parted (builtin_part (parts_in (walk r from to))) ≡ Some p → Alone r from to p
  alone-from None e t =
      let c = ap (λ (ps : List Part). parted (builtin_part ps)) (parts-nil r from to None (sym e) refl) in
      let y : None ≡ Some p = sym c ∙ t in
      never cc
  alone-from (Some o) e t =
      let c = ap (λ (ps : List Part). parted (builtin_part ps)) (parts-cons r from to (Some o) (sym e) o refl) in
      alone-after o e (part_at r o.name.to to) refl (sym c ∙ t)

alone : (r : List ℕ) (from to : ℕ) (v : Option Part) → v ≡ parted (builtin_part (parts_in (walk r from to))) → (p : Part) → v ≡ Some p → Alone r from to p
alone r from to v q p g = alone-from r from to p (part_at r from to) refl (sym q ∙ g)

-- ---- what the option comes to then
no_note : (m : Made Fault) → note_in (settled m) ≡ 0
no_note (made x) = refl
no_note (wrong f) = refl

as-made : (m : Made Fault) → others_of (settled m) ≡ m
as-made (made x) = refl
as-made (wrong f) = refl

nothing-set : (m : Made Fault) → set_recs (settled m) ≡ nil
nothing-set (made x) = refl
nothing-set (wrong f) = refl

of_none : (o : Option Part) → parted o ≡ None → o ≡ None
of_none None e = refl
of_none (Some p) e = never cc

of_some : (o : Option Part) (p : Part) → parted o ≡ Some p → o ≡ Some p
of_some None p e = never cc
of_some (Some x) p e = let y : x ≡ p = cc in ap Some y

module _ (L : Lookups) (s r : List ℕ) (h : Start) (from to : ℕ) (v : Option Part) (q : v ≡ parted (builtin_part (parts_in (walk r from to)))) where
  named-settled : v ≡ None → settled_at L s r h from to ≡ settled (option_made L s r (text r h.scope) 0 (message_of r h) from to)
  unfolding settled_at settle option_of option_made
  named-settled g = rw (of_none (builtin_part (parts_in (walk r from to))) (sym q ∙ g)) refl

  pub settle-named : v ≡ None → (i k : ℕ) (l : List ℕ) (at : ℕ) (l' : List ℕ) (y : Result Settling Cause)
      → Emits (settling_of i 0) (option_made L s r (text r h.scope) 0 (message_of r h) from to) k l at l' y
      → Emits (settling_of i (note_in (settled_at L s r h from to))) (others_of (settled_at L s r h from to)) k l at l' y
  settle-named g i k l at l' y u =
      let m = option_made L s r (text r h.scope) 0 (message_of r h) from to in
      rw (named-settled g, no_note m, as-made m) u

  pub set-named : v ≡ None → (l : List ℕ) (at : ℕ) → Laid l at (encode (set_recs (settled_at L s r h from to))) l at
  unfolding encode
  set-named g l at =
      let m = option_made L s r (text r h.scope) 0 (message_of r h) from to in
      rw (named-settled g, nothing-set m) (record { next = sym (add-zero at); left = refl })

  module _ (p : Part) (g : v ≡ Some p) (b : Result (Option Built) Refusal)
      (e : b ≡ builtin_of L s r (message_of r h) (text r p.name) (constant_at r p.name.to to)) where
    ends : after_parts from (walk r from to) ≡ p.name.to
    ends =
        let a = alone r from to v q p g in
        after-parts-next r from to (Some p) (sym a.is) p refl ∙ after-parts-here r p.name.to to None (sym a.last) refl

    built-settled : settled_at L s r h from to ≡ settled_built r b
    unfolding settled_at settle option_of
    built-settled =
        rw (of_some (builtin_part (parts_in (walk r from to))) p (sym q ∙ g))
        (ap (λ (x : ℕ). settled_built r (builtin_of L s r (message_of r h) (text r p.name) (constant_at r x to))) ends ∙ ap (settled_built r) (sym e))

    pub settle-built : (i k : ℕ) (l : List ℕ) (at : ℕ) (y : Result Settling Cause)
        → y ≡ settling_of i (note_in (settled_built [] b)) at (others_of (settled_built [] b))
        → Emits (settling_of i (note_in (settled_at L s r h from to))) (others_of (settled_at L s r h from to)) k l at l y
    unfolding encode
    settle-built i k l at y o = rw built-settled (go b o)
      where
        go : (b : Result (Option Built) Refusal) → y ≡ settling_of i (note_in (settled_built [] b)) at (others_of (settled_built [] b))
            → Emits (settling_of i (note_in (settled_built r b))) (others_of (settled_built r b)) k l at l y
        go (Ok None) o = record { answer = o; left = λ x z. let c : nil ≡ x = cc in rw (← c) refl; few = λ x z. let c : nil ≡ x = cc in rw (← c) (omega arith) }
        go (Ok (Some x)) o = record { answer = o; left = λ x z. let c : nil ≡ x = cc in rw (← c) refl; few = λ x z. let c : nil ≡ x = cc in rw (← c) (omega arith) }
        go (Err w) o = record { answer = o; left = λ x z. never cc; few = λ x z. never cc }

    pub set-built : (l : List ℕ) (at : ℕ) (l' : List ℕ) (n : ℕ) → Laid l at (encode (built_recs r b)) l' n
        → Laid l at (encode (set_recs (settled_at L s r h from to))) l' n
    set-built l at l' n a = rw (built-settled, same b) a
      where
        same : (b : Result (Option Built) Refusal) → set_recs (settled_built r b) ≡ built_recs r b
        same (Ok None) = refl
        same (Ok (Some x)) = refl
        same (Err w) = refl

-- ---- what is asked where a part stands alone
module _ (r : List ℕ) (from to : ℕ) (v : Option Part) (q : v ≡ parted (builtin_part (parts_in (walk r from to)))) (p : Part) (g : v ≡ Some p) where
  pub alone-ordered : p.name.from ≤ p.name.to
  alone-ordered = part-ordered r from to (Some p) (sym (alone r from to v q p g).is) p refl

  pub alone-inside : p.name.to ≤ to
  alone-inside = part-inside r from to (Some p) (sym (alone r from to v q p g).is) p refl

  pub alone-within : to ≤ length r → p.name.to ≤ length r
  alone-within = part-within r from to (Some p) (sym (alone r from to v q p g).is) p refl

  pub alone-last : OptionParts r from to → LastConstant r p.name.to to
  alone-last o =
      let a = alone r from to v q p g in
      fine-part-last _ r p.name.to to (fine-part-next _ r from to o (Some p) (sym a.is) p refl) None (sym a.last) refl

pub ruleset settle_laws = (settleable_laws, settle-named, settle-built, alone-ordered, alone-inside, alone-within, alone-last)

pub ruleset put_set_laws = (set-named, set-built, alone-ordered, alone-inside, alone-within, alone-last)

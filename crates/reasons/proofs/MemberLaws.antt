-- The laws of members: the ways through the functions that look at one field, the loops over them, and that they are the fields of a
-- message or the values of an enum.
-- Assumes nothing.
use Rattle.std.specs.Prelude.{◌≡◌, refl, Bool, true, false, List, [], ◌++◌, map, ℕ, ◌+◌, ◌-◌, ◌≤◌, eqb, length, None, Some, Option}
use Rattle.basis.specs.Kit.{sym, ap, ◌∙◌}
use Rattle.basis.specs.First.{only_if}
use Rattle.basis.specs.Count.{count, once}
use Rattle.basis.proofs.Kit.{arith, eq-eqb, ne_eqb}
use Rattle.basis.proofs.Never.{never}
use Rattle.basis.proofs.CountLaws.{count-append}
use Rattle.octets.specs.Octets.{same_bytes}
use Rattle.field.specs.declared.Span.{Span}
use Rattle.field.specs.Leaf.{span, text, is_text}
use Rattle.field.specs.Walk.{Walk, done, cut, step, walk}
use Rattle.field.proofs.Seek.{seek, seek_is}
use Rattle.field.proofs.InFields.{sought_laws}
use Rattle.field.proofs.Tally.{total}
use Rattle.field.specs.declared.fields.Fields.{Fields}
use Rattle.field.proofs.InFields.{TallyIn, tally-in-start, tally-in-next, tally_in_laws}
use Rattle.sheet.specs.declared.declaration.Declaration.{Declaration}
use Rattle.sheet.specs.declared.declaration.Value.{Value}
use Rattle.sheet.specs.Table.{field_tag, value_tag}
use Rattle.sheet.specs.Declaration.{message_field_at, value_at}
use Rattle.sheet.specs.Tree.{value_onto, value_in, values_in, items_in}
use Rattle.sheet.specs.Members.{fields_of}
use Rattle.sheet.proofs.MemberLaws.{listed, fields-item}
use Rattle.sheet.proofs.PlaceLaws.{field-name-ordered, field-name-within, value-name-ordered, value-name-within}
use Rattle.reasons.specs.declared.Why.{Why}
use Rattle.reasons.specs.declared.Reason.{Reason}
use Rattle.reasons.specs.Reasons.{also, or_no, reasons, member_flaws}
use Rattle.reasons.specs.inner.Members.{field_name, value_name, member_at, leaf_onto, members_in, member_flaw}
use Rattle.reasons.proofs.ReasonLaws.{also-no}

-- ---- member_at
module _ (k : ℕ) (s : List ℕ) (t a e : ℕ) where
  pub member-other : (t ≡ k → ⊥) → None ≡ member_at k s t a e
  unfolding member_at
  member-other h = rw (member_at, ne_eqb t k h) refl

  module _ (h : t ≡ k) where
    module _ (g : k ≡ field_tag) (r : Option Declaration) (q : r ≡ message_field_at s a e) where
      field-member : field_name r ≡ member_at k s t a e
      unfolding member_at
      field-member = rw (member_at, eq-eqb t k h, eq-eqb k field_tag g, ← q) refl

      pub member-no-field : r ≡ None → None ≡ member_at k s t a e
      member-no-field u = ap field_name (sym u) ∙ field-member

      pub member-field : (d : Declaration) → r ≡ Some d → Some d.name ≡ member_at k s t a e
      member-field d u = ap field_name (sym u) ∙ field-member

    module _ (g : k ≡ field_tag → ⊥) (r : Option Value) (q : r ≡ value_at s a e) where
      value-member : value_name r ≡ member_at k s t a e
      unfolding member_at
      value-member = rw (member_at, eq-eqb t k h, ne_eqb k field_tag g, ← q) refl

      pub member-no-value : r ≡ None → None ≡ member_at k s t a e
      member-no-value u = ap value_name (sym u) ∙ value-member

      pub member-value : (v : Value) → r ≡ Some v → Some v.name ≡ member_at k s t a e
      member-value v u = ap value_name (sym u) ∙ value-member

pub ruleset member_at_laws = (member-other, member-no-field, member-field, member-no-value, member-value)

-- ---- where the name of a member lies
record Lies (end n m : ℕ) : Type 0 where
  ordered : n ≤ m
  inside : m ≤ end

module _ (s : List ℕ) (a e : ℕ) (h : e ≤ length s) where
  field-lies : (r : Option Declaration) → r ≡ message_field_at s a e → (p : Span) → field_name r ≡ Some p → Lies (length s) p.from p.to
  field-lies None q p g = never cc
  field-lies (Some d) q p g =
      let u : p ≡ span d.name.from d.name.to = cc in
      rw u (record { ordered = field-name-ordered s a e (Some d) q d refl; inside = field-name-within s a e (Some d) q d refl h })

  value-lies : (r : Option Value) → r ≡ value_at s a e → (p : Span) → value_name r ≡ Some p → Lies (length s) p.from p.to
  value-lies None q p g = never cc
  value-lies (Some x) q p g =
      let u : p ≡ span x.name.from x.name.to = cc in
      rw u (record { ordered = value-name-ordered s a e (Some x) q x refl; inside = value-name-within s a e (Some x) q x refl h })

  member-lies : (k t : ℕ) (p : Span) → member_at k s t a e ≡ Some p → Lies (length s) p.from p.to
  unfolding member_at
  member-lies k t p = go (eqb t k) (eqb k field_tag)
    where
      go : (b c : Bool)
          → elim b [ true ↦ only_if c (field_name (message_field_at s a e)) (value_name (value_at s a e)) | false ↦ None ] ≡ Some p
          → Lies (length s) p.from p.to
      go true true g = field-lies (message_field_at s a e) refl p g
      go true false g = value-lies (value_at s a e) refl p g
      go false c g = never cc

module _ (k : ℕ) (s : List ℕ) (t a e : ℕ) (r : Option Span) (q : r ≡ member_at k s t a e) (p : Span) (g : r ≡ Some p) (h : e ≤ length s) where
  pub member-ordered : p.from ≤ p.to
  member-ordered = (member-lies s a e h k t p (sym q ∙ g)).ordered

  pub member-within : p.to ≤ length s
  member-within = (member-lies s a e h k t p (sym q ∙ g)).inside

pub ruleset member_place_laws = (member-ordered, member-within)

-- ---- one_named
abbrev pub one_named : (want : ℕ) (s name : List ℕ) (tag from to : ℕ) → ℕ
one_named k s x t a e = count (is_text s x) (leaf_onto (member_at k s t a e) [])

module _ (k : ℕ) (s x : List ℕ) (t a e : ℕ) (r : Option Span) (q : r ≡ member_at k s t a e) where
  pub one-named-not : r ≡ None → 0 ≡ one_named k s x t a e
  one-named-not g = rw (← q, g) refl

  module _ (p : Span) (g : r ≡ Some p) (b : Bool) (u : b ≡ same_bytes x (text s p)) where
    pub one-named-same : b ≡ true → 1 ≡ one_named k s x t a e
    one-named-same h = rw (← q, g, ← u, h) refl

    pub one-named-other : b ≡ false → 0 ≡ one_named k s x t a e
    one-named-other h = rw (← q, g, ← u, h) refl

pub ruleset one_named_laws = (one-named-not, one-named-same, one-named-other, member_place_laws)

-- ---- count_named
onto-append : (l : Option Span) (ns : List Span) → leaf_onto l ns ≡ leaf_onto l [] ++ ns
onto-append None ns = refl
onto-append (Some place) ns = refl

named-total : (k : ℕ) (s x : List ℕ) (w : Walk) → count (is_text s x) (members_in k s w) ≡ total (one_named k s x) w
named-total k s x done = refl
named-total k s x cut = refl
named-total k s x (step t a e w) =
    ap (count (is_text s x)) (onto-append (member_at k s t a e) (members_in k s w))
    ∙ count-append (is_text s x) (leaf_onto (member_at k s t a e) []) (members_in k s w)
    ∙ ap (λ n. one_named k s x t a e + n) (named-total k s x w)

module _ (k : ℕ) (s x : List ℕ) (from to : ℕ) (h : from ≤ to) (g : to ≤ length s) where
  pub named_start : (it : Fields) → it.bytes.now ≡ s → it.at ≡ from → it.end ≡ to
      → TallyIn (count (is_text s x) (members_in k s (walk s from to))) (total (one_named k s x)) s from to 0 it
  named_start it b i n = tally-in-start _ (total (one_named k s x)) s from to it (named-total k s x (walk s from to)) b i n h g

pub few-one : (u a e : ℕ) → u ≤ 1 → u ≤ e - a + 1
few-one u a e h = omega arith

pub ruleset count_named_laws = (named_start, few-one, tally_in_laws, tally-in-next)

-- ---- flaw_of_member
module _ (k : ℕ) (s : List ℕ) (w : Why) (i : ℕ) (ns : List Span) (t a e : ℕ) (r : Option Span) (q : r ≡ member_at k s t a e) where
  pub member-flaw-not : r ≡ None → None ≡ member_flaw s w i ns (member_at k s t a e)
  unfolding member_flaw
  member-flaw-not g = rw (member_flaw, ← q, g) refl

  pub member-flaw-at : (l : Span) → r ≡ Some l → (u : ℕ) → u ≡ count (is_text s (text s l)) ns → (x : Option Reason)
      → x ≡ or_no (eqb u 1) w i l → x ≡ member_flaw s w i ns (member_at k s t a e)
  unfolding member_flaw
  member-flaw-at l g u p x y = y ∙ rw (member_flaw, ← q, g, p) refl

pub ruleset member_flaw_laws = (member-flaw-not, member-flaw-at, member_place_laws)

-- ---- flaw_of_members
abbrev pub flaw_at : (s : List ℕ) → Why → (index : ℕ) → List Span → (want tag from to : ℕ) → Option Reason
flaw_at s w i ns k t a e = member_flaw s w i ns (member_at k s t a e)

onto-flaw : (s : List ℕ) (w : Why) (i : ℕ) (all : List Span) (l : Option Span) (ns : List Span)
    → reasons (λ n. or_no (once (is_text s (text s n)) all) w i n) (leaf_onto l ns)
    ≡ also (member_flaw s w i all l) (reasons (λ n. or_no (once (is_text s (text s n)) all) w i n) ns)
unfolding member_flaw
onto-flaw s w i all None ns = refl
onto-flaw s w i all (Some it) ns = refl

pub member-flaws-is : (s : List ℕ) (w : Why) (i k from to : ℕ) (r : Option Reason)
    → r ≡ seek None also (flaw_at s w i (members_in k s (walk s from to)) k) (walk s from to)
    → r ≡ member_flaws s w i (members_in k s (walk s from to))
member-flaws-is s w i k from to r q =
    let all = members_in k s (walk s from to) in
    q ∙ sym (seek_is None also (flaw_at s w i all k) (λ x. reasons (λ n. or_no (once (is_text s (text s n)) all) w i n) (members_in k s x))
    refl refl (λ t a e x. onto-flaw s w i all (member_at k s t a e) (members_in k s x)) (walk s from to))

pub ruleset member_flaws_laws = (member-flaws-is, also-no, sought_laws)

-- ==== the statements: the members are the fields of a message,
pub members-fields : (d : ℕ) (s : List ℕ) (w : Walk) → members_in field_tag s w ≡ map (λ x. x.name) (fields_of (items_in d s w))
unfolding items_in member_at
members-fields d s done = refl
members-fields d s cut = refl
members-fields d s (step t a e w) =
    rw (members-fields d s w, fields-item d s t a e (items_in d s w)) (go (eqb t field_tag) (message_field_at s a e) (fields_of (items_in d s w)))
  where
    go : (b : Bool) (x : Option Declaration) (ds : List Declaration)
        → leaf_onto (elim b [ true ↦ field_name x | false ↦ None ]) (map (λ y. y.name) ds)
        ≡ map (λ y. y.name) (listed (elim b [ true ↦ x | false ↦ None ]) ++ ds)
    go true None ds = refl
    go true (Some x) ds = refl
    go false x ds = refl

-- and the values of an enum.
pub members-values : (s : List ℕ) (w : Walk) → members_in value_tag s w ≡ map (λ (v : Value). v.name) (values_in s w)
unfolding value_in member_at
members-values s done = refl
members-values s cut = refl
members-values s (step t a e w) = rw (members-values s w) (go (eqb t value_tag) (value_at s a e) (values_in s w))
  where
    go : (b : Bool) (x : Option Value) (vs : List Value)
        → leaf_onto (elim b [ true ↦ value_name x | false ↦ None ]) (map (λ (v : Value). v.name) vs)
        ≡ map (λ (v : Value). v.name) (elim b [ true ↦ value_onto x vs | false ↦ vs ])
    go true None vs = refl
    go true (Some v) vs = refl
    go false x vs = refl

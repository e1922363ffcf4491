-- Where the record at a place lies: behind that place and before the end; a known message's path and place in the sheet.
-- Assumes nothing.
use Rattle.std.specs.Prelude.{◌≡◌, refl, List, ℕ, ◌+◌, ◌≤◌, ◌<◌, eqb, length, Option, None, Err, Some, Ok, Result}
use Rattle.basis.specs.Kit.{sym, ap}
use Rattle.basis.proofs.Kit.{arith, not-true, not-false}
use Rattle.limits.specs.Figures.{most_option_bytes}
use Rattle.reply.specs.declared.Refusal.{Refusal}
use Rattle.field.specs.Leaf.{text, Lies}
use Rattle.types.specs.Types.{wire_of, TYPE_MESSAGE}
use Rattle.varint.specs.Varint.{varint_at}
use Rattle.varint.proofs.VarintLaws.{varint-after, varint-inside, varint_bounds}
use Rattle.wire.specs.Tag.{number_of, wire_type_of}
use Rattle.payloads.specs.inner.Placed.{payload_in}
use Rattle.payloads.proofs.PayloadFacts.{payload-after, payload-inside}
use Rattle.payloads.specs.Value.{value_of}
use Rattle.taken.specs.inner.Taking.{PayloadIn, unknown_taken, plain_taken, known_taken}
use Rattle.sheet.specs.declared.declaration.Declaration.{Declaration}
use Rattle.scope.specs.declared.lookup.LookupScope.{LookupScope}
use Rattle.scope.specs.Scope.{holding}
use Rattle.scope.specs.inner.Answers.{InSheet, declared as answered}
use Rattle.numbers.specs.Number.{declaration_of}
use Rattle.numbers.proofs.PlaceLaws.{numbered-places}
use Rattle.lookups.specs.Lookups.{walking}
use Rattle.lookups.proofs.LookupLaws.{message-lies}
use Rattle.entries.specs.declared.Entry.{Entry}
use Rattle.entries.specs.declared.Front.{Front}
use Rattle.entries.specs.Item.{declared}
use Rattle.entries.specs.inner.Fronts.{message, unknown_of, on_message, entered_of, entry_of, known_front, known_of, by_declared}
use Rattle.entries.specs.inner.Fronts.{behind_tag, FrontLies}
use Rattle.entries.proofs.Either.{either}
use Rattle.entries.proofs.FrontLaws.{front_laws}
use Rattle.payloads.specs.declared.Payload.{Payload}
use Rattle.varint.specs.declared.Read.{Read}

-- ---- a payload between two places
abbrev Between : (next end : ℕ) → Option Payload → Type 0
Between next end None = Unit {0}
Between next end (Some it) = (next ≤ it.at) × (it.at + it.size ≤ end)

payload-between : (w : ℕ) (bs : List ℕ) (next end : ℕ) → next ≤ end → (p : Option Payload) → p ≡ payload_in w bs next end → Between next end p
payload-between w bs next end h None q = tt
payload-between w bs next end h (Some y) q =
    (payload-after w bs next end y (sym q), payload-inside w bs next end y (sym q) h)

-- ---- the record behind a tag
module _ (s : List ℕ) (at next end : ℕ) (h : at < next) where
  unknown-lies : (k w : ℕ) (p : Option Payload) → Between next end p → FrontLies s at end (unknown_of k w p)
  unfolding unknown_of unknown_taken FrontLies
  unknown-lies k w None b = tt
  unknown-lies k w (Some y) b = (omega arith, omega arith)

  module _ (d : Declaration) (l : Lies d.shape.path s) where
    message-found : (e : Entry) → at < e.place → e.place + e.size ≤ end → (u : Result LookupScope Refusal)
        → u ≡ (walking s).message (text s d.shape.path) → FrontLies s at end (on_message e d.shape.path u)
    unfolding FrontLies
    message-found e i j (Err w) q = tt
    message-found e i j (Ok p) q = (i, j, l, message-lies s (text s d.shape.path) (Ok p) q p refl)

    plain-lies : (k w : ℕ) (p : Option Payload) → Between next end p
        → FrontLies s at end (known_front (walking s) s d k w (plain_taken d.shape.typ p))
    unfolding entered_of FrontLies
    plain-lies k w None b = tt
    plain-lies k w (Some y) b =
        either (FrontLies s at end) (eqb d.shape.typ TYPE_MESSAGE) _ _
        (message-found (entry_of d k w y.at y.size (value_of d.shape.typ y.number)) (omega arith) (omega arith)
        ((walking s).message (text s d.shape.path)) refl)
        (omega arith, omega arith)

    known-lies : (k w : ℕ) (p : Option Payload) → Between next end p → FrontLies s at end (known_of (walking s) s d k w p)
    unfolding known_of known_taken FrontLies
    known-lies k w p b =
        either (λ x. FrontLies s at end (known_front (walking s) s d k w x)) (eqb (wire_of d.shape.typ) w) _ _ (plain-lies k w p b) tt

  declared-lies : (k w : ℕ) (p : Option Payload) → Between next end p → (o : Option Declaration)
      → ((d : Declaration) → o ≡ Some d → Lies d.shape.path s) → FrontLies s at end (by_declared (walking s) s o k w p)
  declared-lies k w p b None f = unknown-lies k w p b
  declared-lies k w p b (Some d) f = known-lies d (f d refl) k w p b

-- ---- what declares a number lies in the sheet
module _ (s name : List ℕ) (k : ℕ) (place : LookupScope) (l : InSheet s place) (d : Declaration)
    (a : Option Declaration) (c : a ≡ answered (declaration_of s (holding s place) name k)) (g : a ≡ Some d) where
  pub path-ordered : d.shape.path.from ≤ d.shape.path.to
  path-ordered = (numbered-places s name k place l d a c g).path.ordered

  pub path-within : d.shape.path.to ≤ length s
  path-within = (numbered-places s name k place l d a c g).path.inside

pub lies-wrong : (s : List ℕ) (at end : ℕ) (w : Refusal) → FrontLies s at end (Err w)
unfolding FrontLies
lies-wrong s at end w = tt

pub lies-good : (s name : List ℕ) (place : LookupScope) → InSheet s place → (bs : List ℕ) (at end : ℕ)
    → (v : Option Read) → v ≡ varint_at bs at end → (x : Read) → v ≡ Some x
    → (r : Result Front Refusal) → r ≡ behind_tag (walking s) s (message name place) bs x.value x.next end → FrontLies s at end r
unfolding behind_tag
lies-good s name place l bs at end v p x q r e =
    let w = wire_type_of x.value in
    let k = number_of x.value in
    let paths : (d : Declaration) → declared s (message name place) k ≡ Some d → Lies d.shape.path s =
    λ d y. (
      path-ordered s name k place l d (Some d) (sym (ap answered y)) refl,
      path-within s name k place l d (Some d) (sym (ap answered y)) refl,
    ) in
    rw e
    (declared-lies s at x.next end (varint-after bs at end v p x q) k w (payload_in w bs x.next end)
    (payload-between w bs x.next end (varint-inside bs at end v p x q) (payload_in w bs x.next end) refl)
    (declared s (message name place) k) paths)

-- ---- what the payload's helpers ask
pub payload-in : (w : ℕ) (bs : List ℕ) (at end : ℕ) → at ≤ end → end ≤ length bs → length bs ≤ most_option_bytes
    → (p : Option Payload) → p ≡ payload_in w bs at end → PayloadIn most_option_bytes p
unfolding PayloadIn
payload-in w bs at end h k g None q = tt
payload-in w bs at end h k g (Some y) q = omega (arith, payload-inside w bs at end y (sym q) h)

pub ruleset payload_in_laws = (payload-in, path-ordered, path-within)

pub ruleset front_at_laws = (front_laws, lies-wrong, lies-good, varint_bounds, not-true, not-false)

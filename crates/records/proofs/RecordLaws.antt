-- The laws of one record: the ways through the functions that write a number, a head, bytes or a body.
-- Assumes nothing.
use Rattle.std.specs.Prelude.{◌≡◌, List, ◌++◌, ℕ, ◌+◌, ◌^◌, ◌≤◌, ◌<◌, length}
use Rattle.basis.specs.Kit.{sym, ◌∙◌}
use Rattle.basis.proofs.Kit.{arith, eq-eqb, ne_eqb}
use mathlib.Core.List.{append-nil}
use Rattle.octets.specs.inner.Laid.{Laid}
use Rattle.octets.proofs.Overlay.{laid-append}
use Rattle.octets.proofs.Parts.{part_length}
use Rattle.field.specs.declared.Span.{Span}
use Rattle.field.specs.Leaf.{text, Lies}
use Rattle.types.specs.Types.{is_any, wire_of, I32, I64, LEN, TYPE_SINT32, TYPE_SINT64}
use Rattle.varint.specs.Varint.{varint}
use Rattle.varint.proofs.VarintLaws.{varint-few}
use Rattle.wire.specs.Fixed.{little_of}
use Rattle.wire.specs.Numbers.{zigzag_of, low32_of}
use Rattle.wire.specs.Tag.{tag_of}
use Rattle.sheet.specs.declared.declaration.Shape.{Shape}
use Rattle.records.specs.declared.Body.{Body}
use Rattle.records.specs.declared.Body.TheVariants.{Bits, Bytes}
use Rattle.records.specs.Records.{record_of, payload, headed, head_of, sized, encode}
use Rattle.records.specs.inner.Emits.{InBody}
use Rattle.records.proofs.RecsLaws.{head_few}
use Rattle.records.proofs.PayloadLaws.{on_type, payload-four, payload-eight, payload-varint}

-- ---- put_payload
module _ (t v : ℕ) (l l' : List ℕ) (at r w : ℕ) (p : w ≡ wire_of t) where
  pub four-laid : w ≡ I32 → (x : ℕ) → x ≡ low32_of v → Laid l at (little_of 4 x) l' r → Laid l at (payload t v) l' r
  four-laid h x e a = rw (payload-four t v (sym p ∙ h), ← e) a

  pub eight-laid : w ≡ I64 → Laid l at (little_of 8 v) l' r → Laid l at (payload t v) l' r
  eight-laid h a = rw (payload-eight t v (sym p ∙ h)) a

  module _ (d : w ≡ I32 → ⊥) (f : w ≡ I64 → ⊥) where
    varint-laid : (x : ℕ) → x ≡ on_type t v → Laid l at (varint x) l' r → Laid l at (payload t v) l' r
    varint-laid x e a = rw (payload-varint t v (λ g. d (p ∙ g)) (λ g. f (p ∙ g)), ← e) a

    module _ (x : ℕ) (e : x ≡ zigzag_of v) (a : Laid l at (varint x) l' r) where
      pub sint32-laid : t ≡ TYPE_SINT32 → Laid l at (payload t v) l' r
      sint32-laid h = varint-laid x (simp (on_type, is_any, eq-eqb t TYPE_SINT32 h) e) a

      pub sint64-laid : t ≡ TYPE_SINT64 → Laid l at (payload t v) l' r
      sint64-laid h = varint-laid x (rw h e) a

    pub plain-laid : (t ≡ TYPE_SINT32 → ⊥) → (t ≡ TYPE_SINT64 → ⊥) → Laid l at (varint v) l' r → Laid l at (payload t v) l' r
    plain-laid g h a = varint-laid v (simp (on_type, is_any, ne_eqb t TYPE_SINT32 g, ne_eqb t TYPE_SINT64 h)) a

pub ruleset payload_laws = (four-laid, eight-laid, sint32-laid, sint64-laid, plain-laid)

-- ---- put_number and put_head: a tag, and what follows it
module _ (l m : List ℕ) (at p v : ℕ) (a : Laid l at (varint v) m p) where
  pub tag-next : at < 2 ^ 62 → p < 2 ^ 63
  tag-next h = omega (arith, a.next, varint-few v)

  module _ (n w : ℕ) (k : v ≡ tag_of n w) (l' : List ℕ) (r : ℕ) where
    pub number-laid : (t : ℕ) → w ≡ wire_of t → (b : ℕ) → Laid m p (payload t b) l' r → Laid l at (headed n t ++ payload t b) l' r
    number-laid t e b c = laid-append (headed n t) (payload t b) (rw (k, e) at a) c

    pub head-laid : w ≡ LEN → (x : ℕ) → Laid m p (varint x) l' r → Laid l at (head_of n x) l' r
    unfolding head_of
    head-laid e x c = laid-append (varint (tag_of n LEN)) (varint x) (rw (k, e) at a) c

pub ruleset tag_laws = (tag-next, number-laid, head-laid)

-- ---- put_bytes
module _ (l m : List ℕ) (at p n : ℕ) (bs : List ℕ) (a : Laid l at (head_of n (length bs)) m p) where
  pub bytes_next : at + length bs < 2 ^ 62 → p + length bs < 2 ^ 64
  bytes_next h = omega (arith, a.next, head_few n (length bs))

  pub bytes-laid : (l' : List ℕ) (r : ℕ) → Laid m p bs l' r → Laid l at (sized n bs) l' r
  bytes-laid l' r c = laid-append (head_of n (length bs)) bs a c

pub bytes-place : (at n : ℕ) → at + n < 2 ^ 62 → at < 2 ^ 62
bytes-place at n h = omega arith

pub ruleset bytes_laws = (bytes_next, bytes-laid, bytes-place)

-- ---- put_record
module _ (r : List ℕ) (h : Shape) (b : Body) (l l' : List ℕ) (at n : ℕ) where
  pub record-bits : (v : ℕ) → b ≡ Bits v → (t : ℕ) → t ≡ h.typ → Laid l at (headed h.number t ++ payload t v) l' n
      → Laid l at (encode (record_of r h b)) l' n
  unfolding encode
  record-bits v g t k a = rw (g, append-nil, ← k) a

  pub record-bytes : (p : Span) → b ≡ Bytes p → Laid l at (sized h.number (text r p)) l' n → Laid l at (encode (record_of r h b)) l' n
  unfolding encode
  record-bytes p g a = rw (g, append-nil) a

module _ (b : Body) (r : List ℕ) (i : InBody b r) (p : Span) (g : b ≡ Bytes p) where
  body-lies : Lies p r
  unfolding InBody
  body-lies = rw g at i

  pub body-ordered : p.from ≤ p.to
  body-ordered = body-lies.0

  pub body-within : p.to ≤ length r
  body-within = body-lies.1

  pub body-small : (at : ℕ) → at + length r < 2 ^ 62 → at + length (text r p) < 2 ^ 62
  body-small at h = omega (arith, part_length r p.from p.to body-within, body-ordered, body-within)

pub ruleset record_laws = (record-bits, record-bytes, body-ordered, body-within, body-small, bytes-place)

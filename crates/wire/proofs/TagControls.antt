-- Tags: closed cases.
-- Assumes nothing.
use Rattle.std.specs.Prelude.{◌≡◌, refl, true, false}
use Rattle.wire.specs.Tag.{tag_of, number_of, wire_type_of, tag_good}

-- Encoding, "Message Structure": field 1 with wire type 0
tag-first : (tag_of 1 0 ≡ 0x08) × (number_of 0x08 ≡ 1) × (wire_type_of 0x08 ≡ 0)
tag-first = (refl, refl, refl)

tag-second : (tag_of 2 2 ≡ 0x12) × (number_of 0x12 ≡ 2) × (wire_type_of 0x12 ≡ 2)
tag-second = (refl, refl, refl)

tag-numbers : (tag_good (tag_of 0 0) ≡ false) × (tag_good (tag_of 1 0) ≡ true)
    × (tag_good (tag_of 536870911 0) ≡ true) × (tag_good (tag_of 536870912 0) ≡ false)
unfolding tag_good
tag-numbers = (refl, refl, refl, refl)

tag-wires-good : (tag_good (tag_of 1 0) ≡ true) × (tag_good (tag_of 1 1) ≡ true)
    × (tag_good (tag_of 1 2) ≡ true) × (tag_good (tag_of 1 5) ≡ true)
unfolding tag_good
tag-wires-good = (refl, refl, refl, refl)

tag-wires-bad : (tag_good (tag_of 1 3) ≡ false) × (tag_good (tag_of 1 4) ≡ false)
    × (tag_good (tag_of 1 6) ≡ false) × (tag_good (tag_of 1 7) ≡ false)
unfolding tag_good
tag-wires-bad = (refl, refl, refl, refl)

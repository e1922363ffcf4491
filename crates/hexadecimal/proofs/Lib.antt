pub mod DigitLaws
pub mod SpellingLaws
pub mod GlyphLaws
pub mod Controls

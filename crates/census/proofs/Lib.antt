pub mod WayLaws
pub mod OnwardLaws
pub mod BearersLaws
pub mod NumbersLaws
pub mod OtherLaws
pub mod ItemLaws

pub mod FrontLaws
pub mod ScalarLaws
pub mod ValueLaws
pub mod ListLaws
pub mod PairLaws
pub mod MessageLaws

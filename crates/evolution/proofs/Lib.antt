pub mod LiesLaws
pub mod FieldLaws
pub mod FlawLaws
pub mod LossLaws
pub mod EitherLaws
pub mod RosterLaws
pub mod CallLaws

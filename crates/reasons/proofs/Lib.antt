pub mod ReasonLaws
pub mod MemberLaws

pub mod Forms
pub mod Front
pub mod Lead
pub mod Laws
pub mod Scan
pub mod Controls

pub mod ExtensionLaws

pub mod LikenessLaws

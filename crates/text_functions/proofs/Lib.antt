mod CaseLemmas
mod CharacterLemmas
mod Cutting
mod EdgeLemmas
pub mod LikeLemmas
mod PartingLemmas
mod PieceLemmas
mod PlaceLemmas
mod PrefixLemmas
mod ReplaceLemmas
mod RunLemmas
mod StandLemmas
mod TokenLemmas
mod ValueLemmas
mod WindowLemmas

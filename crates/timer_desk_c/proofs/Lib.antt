pub mod RoundLemmas
pub mod PlacementLemmas
pub mod EndingLemmas
pub mod StoppingLemmas

pub mod HeadFacts

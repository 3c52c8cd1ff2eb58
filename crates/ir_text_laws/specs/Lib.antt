pub mod CanonicalTexts

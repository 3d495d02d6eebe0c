-- Document 01 as definitions, in its own order. Each stands under the sentence that it renders; specs/Lists has the three tests over lists that all lean on.
pub mod Lists
pub mod Terms
pub mod Propagation
pub mod Frames
pub mod Results
pub mod Answers
pub mod Histories
pub mod Outcomes

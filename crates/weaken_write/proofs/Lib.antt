-- WEAKEN's record: what its writer leaves of rows, pool and stack fits, and spells the paper's next state.
pub mod Weakening

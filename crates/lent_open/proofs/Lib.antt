-- Opening's two checks (Opened), and what an opening carries spells (Spells).
pub mod Opened
pub mod Spells

-- What each check leans on and gives to a judgment: the row found (Located), checks in order (Order), the stack's ids (Stack), a verdict's bound (Verdicts).
pub mod Located
pub mod Order
pub mod Stack
pub mod Verdicts

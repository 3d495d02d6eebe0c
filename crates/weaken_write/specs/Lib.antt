-- What WEAKEN has been judged by, and what its writer makes of the table.
pub mod Records

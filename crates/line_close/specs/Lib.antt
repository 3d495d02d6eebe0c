-- What a line's reply lists, and what closing a line may lean on.
pub mod Replies

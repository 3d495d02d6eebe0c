-- What the writers of a reply keep: the true variables of a model.
pub mod Model

mod CarryLemmas
mod FieldLemmas
mod SearchLemmas

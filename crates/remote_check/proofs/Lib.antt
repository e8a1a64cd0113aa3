mod AnswerLemmas
mod BodyLemmas
mod CountLemmas
mod FetchLemmas
mod HeadLemmas
mod LawLemmas
mod LengthLemmas

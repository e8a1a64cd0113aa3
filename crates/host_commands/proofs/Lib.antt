mod Listened
mod Links
mod Sound
mod Published
mod Headlines
mod OneAnswer
mod SameRuns

use Rattle.estate_texts.proofs.GivenLaws.{front_once, some_line}
use Rattle.estate_texts.proofs.GivenLines.{given_more}
use Rattle.estate_texts.proofs.laws.given_law.Goals as goal

pub returns-clause-front : goal.returns-clause-front
returns-clause-front c players bytes rest given others begins can text =
    front_once (record { plain = c.numbers_law.ensures.plain; once = c.numbers_law.ensures.once }) players bytes rest given others begins.can can begins.text text

pub returns-clause-more : goal.returns-clause-more
returns-clause-more c players bytes rest after given line begins one = given_more players bytes rest after given line begins one

pub returns-clause-one : goal.returns-clause-one
returns-clause-one c players bytes rest given others begins can text = some_line bytes rest given others begins.text text

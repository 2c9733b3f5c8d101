use Rattle.ticklab_explain.proofs.messages.push_text.Goals as goal

pub returns-in-TextTooLong : goal.returns-in-TextTooLong
returns-in-TextTooLong c = rw c.in-TextTooLong.is c.push_number.ensures

pub returns-in-BadCharacter : goal.returns-in-BadCharacter
returns-in-BadCharacter c = rw c.in-BadCharacter.is c.push_character.ensures

pub returns-in-Unexpected : goal.returns-in-Unexpected
returns-in-Unexpected c = rw c.in-Unexpected.is c.push_expectation.ensures

use Rattle.sctp_script.proofs.further_line.read_words.Goals as goal

pub returns-in-Reset : goal.returns-in-Reset
returns-in-Reset c = rw c.in-Reset.is c.read_reset.ensures

pub returns-in-Resets : goal.returns-in-Resets
returns-in-Resets c = rw c.in-Resets.is c.read_resets.ensures

pub returns-in-Later : goal.returns-in-Later
returns-in-Later c = rw c.in-Later.is c.read_later.ensures

pub returns-in-Moment : goal.returns-in-Moment
returns-in-Moment c = rw c.in-Moment.is c.read_moment.ensures

use Rattle.gw_main.proofs.complaint.complain.Goals as goal

pub returns-in-Ok-clause-text : goal.returns-in-Ok-clause-text
returns-in-Ok-clause-text g c = rw c.in-Line.is (rw (c.deref.ensures.value, c.in-Ok.ensures) at c.say.ensures)

pub returns-in-Model-clause-text : goal.returns-in-Model-clause-text
returns-in-Model-clause-text g c = rw c.in-Model.is (rw c.model_text.ensures at c.say-in-Model.ensures)

pub returns-in-Read-clause-text : goal.returns-in-Read-clause-text
returns-in-Read-clause-text g c = rw c.in-Read.is c.say-in-Read.ensures

pub returns-in-Write-clause-text : goal.returns-in-Write-clause-text
returns-in-Write-clause-text g c = rw c.in-Write.is c.say-in-Write.ensures

pub returns-in-ReadLimit-clause-text : goal.returns-in-ReadLimit-clause-text
returns-in-ReadLimit-clause-text g c = rw c.in-ReadLimit.is c.say-in-ReadLimit.ensures

pub returns-in-Memory-clause-text : goal.returns-in-Memory-clause-text
returns-in-Memory-clause-text g c = rw c.in-Memory.is c.say-in-Memory.ensures

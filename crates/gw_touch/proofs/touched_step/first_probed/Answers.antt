use Rattle.gw_touch.proofs.touched_step.first_probed.Goals as goal

pub returns-in-One : goal.returns-in-One
returns-in-One c = rw c.in-One.is c.first_use.ensures

pub returns-in-CommandsFrom : goal.returns-in-CommandsFrom
returns-in-CommandsFrom c = rw c.in-CommandsFrom.is c.first_command.ensures

pub returns-in-Beyond : goal.returns-in-Beyond
returns-in-Beyond c = rw c.in-Beyond.is c.first_clock.ensures

pub returns-in-Amounts : goal.returns-in-Amounts
returns-in-Amounts c = rw c.in-Amounts.is c.first_ask.ensures

use Rattle.gw_lines.proofs.Whole.{model_found, model_whole, model_only, model_fault, model_faulty}
use Rattle.gw_lines.proofs.model.read_model.Goals as goal

pub returns-clause-found : goal.returns-clause-found
returns-clause-found c = model_found c.args.bytes.now c.read_lines.result c.read_lines.ensures

pub returns-clause-whole : goal.returns-clause-whole
returns-clause-whole c = model_whole c.args.bytes.now c.read_lines.result c.read_lines.ensures

pub returns-clause-only : goal.returns-clause-only
returns-clause-only c = model_only c.args.bytes.now c.read_lines.result c.read_lines.ensures

pub returns-clause-fault : goal.returns-clause-fault
returns-clause-fault c = model_fault c.args.bytes.now c.read_lines.result c.read_lines.ensures

pub returns-clause-faulty : goal.returns-clause-faulty
returns-clause-faulty c = model_faulty c.args.bytes.now c.read_lines.result c.read_lines.ensures

-- What a command replies to bytes, unless memory ran out.
use Rattle.std.specs.Prelude.{◌≡◌, ◌⊎◌, Result, Ok, Err, alloc_error}
use Rattle.std.specs.declared.alloc.AllocError.{AllocError}
use Rattle.bt_print.specs.declared.answer.Answer.{Answer}
use Rattle.bt_print.specs.declared.answer.Answer.TheVariants as answer
use Rattle.bt_print.specs.declared.answer.Brief.TheVariants as brief
use Rattle.bt_designs.specs.declared.fault.DesignFault.{DesignFault}
use Rattle.bt_designs.specs.declared.fault.DesignFault.TheVariants as design
use Rattle.bt_designs.specs.declared.refusal.Refusal.TheVariants as refusal
use Rattle.bt_cert.specs.declared.fault.CertFault.{CertFault}
use Rattle.bt_cert.specs.declared.fault.CertFault.TheVariants as cert
use Rattle.bt_flow.specs.declared.fault.StateFault.{StateFault}
use Rattle.bt_flow.specs.declared.fault.StateFault.TheVariants as state
use Rattle.bt_gen.specs.declared.fault.GenFault.{GenFault}
use Rattle.bt_gen.specs.declared.fault.GenFault.TheVariants as gen
use Rattle.bt_io.specs.declared.fault.ReadAll.{ReadAll}
use Rattle.bt_io.specs.declared.fault.ReadAll.TheVariants as read
use Rattle.bt_model.specs.Requests.{LayoutRequest}
use Rattle.bt_place.specs.PlaceFormula.{HasFormula}

-- what is answered, or that memory ran out
abbrev pub Reply : Type 0
Reply = Result Answer AllocError

-- the refusal of a design
abbrev pub design_told : DesignFault → Reply
design_told (design.Refused r) = Ok (answer.Brief (brief.Refused r))
design_told design.Memory = Err alloc_error

-- the refusal of an order
abbrev pub gen_told : GenFault → Reply
gen_told (gen.Order order) = Ok (answer.Brief (brief.Refused (refusal.Order order)))
gen_told gen.Memory = Err alloc_error

-- the line at which a text stops to be that of a state
abbrev pub state_told : StateFault → Reply
state_told (state.CertLine k) = Ok (answer.Brief (brief.CertLine k))
state_told state.Memory = Err alloc_error

-- why steps that are read from a source are no certificate, or why they could not be read
abbrev pub steps_told : CertFault → Result Answer ReadAll
steps_told (cert.CertLine k) = Ok (answer.Brief (brief.CertLine k))
steps_told (cert.BadStep k cause) = Ok (answer.Brief (brief.BadStep k cause))
steps_told cert.NoVerdict = Ok (answer.Brief brief.NoVerdict)
steps_told (cert.CertWide k row column) = Ok (answer.Brief (brief.CertWide k row column))
steps_told cert.ReadFault = Err read.ReadFault
steps_told cert.TooLong = Err read.TooLong
steps_told cert.Memory = Err read.Memory

-- what is answered to a request that has a formula, and else that it is too large
abbrev pub UnlessLarge : (LayoutRequest → Reply → Type 0) → LayoutRequest → Reply → Type 0
UnlessLarge IsAnswered r reply = (HasFormula r × IsAnswered r reply) ⊎ ((HasFormula r → ⊥) × (reply ≡ design_told (design.Refused refusal.TooLarge)))

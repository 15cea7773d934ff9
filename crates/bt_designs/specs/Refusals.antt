-- What a design's refusal is called, for each fault that a layer below finds, and how it is written.
use Rattle.std.specs.Prelude.{ℕ, List, ◌++◌, codes, decimal}
use Rattle.bt_json.specs.declared.fault.JsonFault.{JsonFault}
use Rattle.bt_json.specs.declared.fault.JsonFault.TheVariants as json
use Rattle.bt_entities.specs.declared.fault.EntityFault.{EntityFault}
use Rattle.bt_entities.specs.declared.fault.EntityFault.TheVariants as entity
use Rattle.bt_entities.specs.declared.fault.Member.{Member}
use Rattle.bt_entities.specs.declared.fault.Member.TheVariants as member
use Rattle.bt_recover.specs.declared.grid.GridFault.{GridFault}
use Rattle.bt_recover.specs.declared.grid.GridFault.TheVariants as grid
use Rattle.bt_recover.specs.declared.fault.RecoverFault.{RecoverFault}
use Rattle.bt_recover.specs.declared.fault.RecoverFault.TheVariants as layout
use Rattle.bt_net.specs.declared.fault.NetFault.{NetFault}
use Rattle.bt_net.specs.declared.fault.NetFault.TheVariants as net
use Rattle.bt_model.specs.declared.fault.RequestFault.{RequestFault}
use Rattle.bt_model.specs.declared.fault.RequestFault.TheVariants as request
use Rattle.bt_designs.specs.declared.fault.DesignFault.{DesignFault}
use Rattle.bt_designs.specs.declared.fault.DesignFault.TheVariants as fault
use Rattle.bt_designs.specs.declared.refusal.Refusal.{Refusal}
use Rattle.bt_designs.specs.declared.refusal.Refusal.TheVariants.{Json, Deep, DuplicateKey, NotBlueprint, Book, TooMany, Unsupported, BadMember, OffGrid, Special, Overlap, Unpaired, SideLoad, Blocked, Ring, NetLine, TooLarge, NoEnds, Order, Pin, Cap, Block, Ends}

-- the fault of the JSON text
abbrev pub json_told : JsonFault → DesignFault
json_told (json.Json at) = fault.Refused (Json at)
json_told (json.Deep at) = fault.Refused (Deep at)
json_told (json.DuplicateKey at) = fault.Refused (DuplicateKey at)
json_told json.Memory = fault.Memory

-- the fault of the blueprint; of an unknown entity it keeps no name
abbrev pub entity_told : EntityFault → DesignFault
entity_told entity.NotBlueprint = fault.Refused NotBlueprint
entity_told entity.Book = fault.Refused Book
entity_told entity.TooMany = fault.Refused TooMany
entity_told (entity.Unsupported i name) = fault.Refused (Unsupported i)
entity_told (entity.BadMember i m) = fault.Refused (BadMember i m)
entity_told (entity.OffGrid i) = fault.Refused (OffGrid i)
entity_told (entity.Special i m) = fault.Refused (Special i m)
entity_told entity.Memory = fault.Memory

-- the fault of placing the parts
abbrev pub grid_told : GridFault → DesignFault
grid_told (grid.Overlap i j) = fault.Refused (Overlap i j)
grid_told grid.Memory = fault.Memory

-- the fault of the layout or of its network
abbrev pub layout_told : RecoverFault → DesignFault
layout_told (layout.Unpaired i) = fault.Refused (Unpaired i)
layout_told (layout.SideLoad i) = fault.Refused (SideLoad i)
layout_told (layout.Blocked i) = fault.Refused (Blocked i)
layout_told (layout.Ring i) = fault.Refused (Ring i)
layout_told layout.TooLarge = fault.Refused TooLarge
layout_told layout.NoEnds = fault.Refused NoEnds
layout_told layout.Memory = fault.Memory

-- the fault of the network text
abbrev pub net_told : NetFault → DesignFault
net_told (net.NetLine k) = fault.Refused (NetLine k)
net_told net.TooLarge = fault.Refused TooLarge
net_told net.NoEnds = fault.Refused NoEnds
net_told net.Memory = fault.Memory

-- why there is no request
abbrev pub request_told : RequestFault → DesignFault
request_told request.TooLarge = fault.Refused TooLarge
request_told (request.Cap k) = fault.Refused (Cap k)
request_told (request.Pin k) = fault.Refused (Pin k)
request_told (request.Block k) = fault.Refused (Block k)

-- the word for a member of an entity
abbrev pub member_name : Member → List ℕ
member_name member.Entity = codes "entity"
member_name member.Name = codes "name"
member_name member.Position = codes "position"
member_name member.Direction = codes "direction"
member_name member.PieceType = codes "type"
member_name member.InputPriority = codes "input_priority"
member_name member.OutputPriority = codes "output_priority"
member_name member.ControlBehavior = codes "control_behavior"
member_name member.Filter = codes "filter"

-- the number, the name and the words of a refusal
abbrev pub refusal_text : Refusal → List ℕ
refusal_text (Json at) = codes "10 Json " ++ decimal at
refusal_text (Deep at) = codes "11 Deep " ++ decimal at
refusal_text (DuplicateKey at) = codes "12 DuplicateKey " ++ decimal at
refusal_text NotBlueprint = codes "20 NotBlueprint"
refusal_text Book = codes "21 Book"
refusal_text TooMany = codes "22 TooMany"
refusal_text (Unsupported i) = codes "23 Unsupported " ++ decimal i
refusal_text (BadMember i m) = codes "24 BadMember " ++ decimal i ++ codes " " ++ member_name m
refusal_text (OffGrid i) = codes "25 OffGrid " ++ decimal i
refusal_text (Special i m) = codes "27 Special " ++ decimal i ++ codes " " ++ member_name m
refusal_text (Overlap i j) = codes "30 Overlap " ++ decimal i ++ codes " " ++ decimal j
refusal_text (Unpaired i) = codes "31 Unpaired " ++ decimal i
refusal_text (SideLoad i) = codes "32 SideLoad " ++ decimal i
refusal_text (Blocked i) = codes "33 Blocked " ++ decimal i
refusal_text (Ring i) = codes "34 Ring " ++ decimal i
refusal_text (NetLine k) = codes "40 NetLine " ++ decimal k
refusal_text TooLarge = codes "41 TooLarge"
refusal_text NoEnds = codes "42 NoEnds"
refusal_text (Order order) = codes "43 Order " ++ decimal order
refusal_text (Pin k) = codes "44 Pin " ++ decimal k
refusal_text (Cap k) = codes "45 Cap " ++ decimal k
refusal_text (Block k) = codes "46 Block " ++ decimal k
refusal_text Ends = codes "47 Ends"

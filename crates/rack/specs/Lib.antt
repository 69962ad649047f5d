-- What a reader must believe of racks, in the order of the request. Row is what the contracts
-- of inner functions say of a line and a load to one card.
pub mod Shared
pub mod Supply
pub mod Rack
pub mod Calls
pub mod Demand3
pub mod Alone
pub mod Cards
pub mod Row
pub mod Examples

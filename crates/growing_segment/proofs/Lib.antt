mod Columns
mod KeyMaps
mod KeyOrder
mod SlotLaws
mod TailLaws

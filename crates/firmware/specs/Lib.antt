pub mod Firmware
